-- The datagram as it is decided, measured and written, from what the walk over its headers says.
use Rattle.ieee802154.specs.declared.addr.Address.{Address}
use Rattle.std.specs.Prelude.{Result, Ok, Err, Option}
use Prim.Native.Nat.{ℕ, ◌+◌, ◌-◌, ◌≤◌, ◌<◌}
use native.Mathlib.Nat.{zero-add}
use native.Mathlib.Omega.{arith}
use mathlib.Core.List.{List, ◌++◌}
use mathlib.Core.Bool.{Bool, true, false}
use mathlib.Core.Path.{◌≡◌, refl, sym, ap, ◌∙◌}
use lib.ListN.{length, take, drop, replicate, length-append}
use lib.Seq.{take-append_seam}
use lib.Dec.{leb}
use borrow.Author.Tests.{lt-ltb, le-ltb, leb-true, le-leb, lt-leb}
use Rattle.octets.specs.Read.{Answer, is, refused, Read, and_then, choose}
use Rattle.octets.specs.Refusal.{number_of}
use Rattle.octets.specs.Write.{put, over}
use Rattle.octets.specs.declared.refusal.Refusal.{Refusal}
use Rattle.octets.proofs.Spans.{not-refused}
use Rattle.octets.proofs.Puts.{put_front}
use Rattle.expand.specs.Full.{ipv6_with, udp_full}
use Rattle.expand.specs.Expand.{Expansion, of_expanded, measure_of, finished, finished_in, bytes_of, sized, expansion, measured, answered, written, filled}
use Rattle.expand.specs.Chain.{Chain, rest, udp_then, extension, ipv6, chained, head_number, full_size, ext_full, size_of, full_bytes, sum_in, total_in, total_of, Measure}
use Rattle.expand.specs.Walk.{start, of_walked, ending, end_of, put_ahead, Ends}
use Rattle.expand.specs.declared.checksum.UdpSum.{UdpSum}
use Rattle.expand.specs.declared.chain.End.{End}
use Rattle.expand.specs.declared.datagram.Expanded.{Expanded}
use Rattle.expand.proofs.Inverting.{value-is}
use Rattle.expand.proofs.FullLaws.{length-ipv6, length-udp, length-ext}
use Rattle.expand.proofs.ExpandLaws.{finished-length, finished-front, over-is}

-- ---- a chain's bytes are as many as it says
pub length-full : (t o : ℕ) (c : Chain) → length (full_bytes t o c) ≡ size_of c
unfolding full_bytes size_of
length-full t o (rest p d) = refl
length-full t o (udp_then h d) = length-append (udp_full h (t - o)) d ∙ ap (λ x. x + length d) (length-udp h (t - o))
length-full t o (extension n d c) =
    length-append (ext_full (head_number c) d) (full_bytes t (o + full_size (length d)) c)
    ∙ ap (λ x. x + length (full_bytes t (o + full_size (length d)) c)) (length-ext (head_number c) d)
    ∙ ap (λ x. full_size (length d) + x) (length-full t (o + full_size (length d)) c)
length-full t o (ipv6 h c) =
    length-append (ipv6_with h (head_number c) (t - (o + 40))) (full_bytes t (o + 40) c)
    ∙ ap (λ x. x + length (full_bytes t (o + 40) c)) (length-ipv6 h (head_number c) (t - (o + 40)))
    ∙ ap (λ x. 40 + x) (length-full t (o + 40) c)

pub length-bytes : (size : Option ℕ) (c : Chain) → length (bytes_of size c) ≡ size_of c
unfolding bytes_of
length-bytes size c = finished-length size (sum_in false 0 0 c) (full_bytes (total_of size (size_of c)) 0 c) ∙ length-full (total_of size (size_of c)) 0 c

-- ---- what the walk says
-- a chain c, in a room: the answer is that of the walk's end
ended : (size : Option ℕ) (c : Chain) (room : List ℕ) → ending size start (length room) c ≡ answered (sized size c) room
unfolding total_in sized
ended size c room = rw (zero-add (size_of c)) (go (leb (size_of c) (total_of size (size_of c))))
  where
    told : (t : Bool) → ◌≡◌ {A = Answer Measure} (and_then (choose t (is (total_of size (size_of c))) (refused 7)) (λ x. is (record { len = size_of c; sum = sum_in false 0 0 c }))) (choose t (is (record { len = size_of c; sum = sum_in false 0 0 c })) (refused 7))
    told true = refl
    told false = refl

    go : (t : Bool) → ◌≡◌ {A = Answer Measure} (and_then (choose t (choose (leb (size_of c) (length room)) (is (total_of size (size_of c))) (refused 7)) (refused 10)) (λ x. is (record { len = size_of c; sum = sum_in false 0 0 c }))) (answered (choose t (is (record { bytes = bytes_of size c; sum = sum_in false 0 0 c })) (refused 10)) room)
    go true = rw (length-bytes size c) (told (leb (size_of c) (length room)))
    go false = refl

read-ended : (size : Option ℕ) (m : Read Chain) (room : List ℕ) → end_of size start (length room) m ≡ answered (and_then m (λ p. sized size p.value)) room
read-ended size (is p) room = ended size p.value room
read-ended size (refused n) room = refl

-- the bytes of a chain c, put into a room that has enough, with its checksum
module _ (size : Option ℕ) (c : Chain) (len : ℕ) (u : UdpSum) (room n out : List ℕ) (b : n ≡ put 0 (full_bytes (total_of size len) 0 c) room) (q : out ≡ finished_in size u len n) where
  fits-written : length (bytes_of size c) ≤ length room → len ≡ length (bytes_of size c) → u ≡ sum_in false 0 0 c → out ≡ over (length (bytes_of size c)) (bytes_of size c) room
  unfolding bytes_of
  fits-written enough len_is sum_is_lem =
      let d = full_bytes (total_of size len) 0 c in
      let size_is : len ≡ size_of c = len_is ∙ length-bytes size c in
      let long : length d ≡ len = length-full (total_of size len) 0 c ∙ sym size_is in
      let n-is : n ≡ d ++ drop len room = b ∙ put_front d room (omega (arith, long, len_is, enough)) ∙ ap (λ v. d ++ drop v room) long in
      q
      ∙ ap (finished_in size u len) n-is
      ∙ finished-front size u len d (drop len room) long
      ∙ ap (λ v. finished size v d ++ drop len room) sum_is_lem
      ∙ ap (λ v. finished size (sum_in false 0 0 c) (full_bytes (total_of size v) 0 c) ++ drop len room) size_is
      ∙ sym (over-is (bytes_of size c) room len (sym len_is) (omega (arith, len_is, enough)))

  chain-written : is (record { len = len; sum = u }) ≡ answered (sized size c) room → out ≡ written (sized size c) room
  unfolding sized
  chain-written e = go (leb (size_of c) (total_of size (size_of c))) e
    where
      fits : (t : Bool) → leb (length (bytes_of size c)) (length room) ≡ t → ◌≡◌ {A = Answer Measure} (is (record { len = len; sum = u })) (choose t (is (record { len = length (bytes_of size c); sum = sum_in false 0 0 c })) (refused 7)) → out ≡ over (length (bytes_of size c)) (bytes_of size c) room
      fits false i j = not-refused _ 7 (sym j)
      fits true i j = let same = value-is _ _ j in fits-written (leb-true _ _ i) (ap (λ v. v.len) same) (ap (λ v. v.sum) same)

      go : (t : Bool) → is (record { len = len; sum = u }) ≡ answered (choose t (is (record { bytes = bytes_of size c; sum = sum_in false 0 0 c })) (refused 10)) room → out ≡ written (choose t (is (record { bytes = bytes_of size c; sum = sum_in false 0 0 c })) (refused 10)) room
      go false w = not-refused _ 10 (sym w)
      go true w = fits (leb (length (bytes_of size c)) (length room)) refl w

-- ---- the frame as a whole
module _ (ctx : List ℕ) (ls ld : Option Address) (size : Option ℕ) (s : List ℕ) (at : ℕ) where
  abbrev whole : Answer Expansion
  whole = expansion ctx ls ld size s at

  pub expansion-long : 127 < length s → whole ≡ refused 4
  unfolding expansion
  expansion-long k = rw (lt-ltb 127 (length s) k) refl

  module _ (short : length s ≤ 127) (room n : List ℕ) where
    expansion-is : whole ≡ and_then (chained ctx ls ld s at) (λ p. sized size p.value)
    unfolding expansion
    expansion-is = rw (le-ltb 127 (length s) short) refl

    answer-is : (y : Result End Refusal) → Ends y start size (chained ctx ls ld s at) room n → of_walked y ≡ answered whole room
    answer-is y W = W.answer ∙ read-ended size (chained ctx ls ld s at) room ∙ ap (λ m. answered m room) (sym expansion-is)

    pub walk_refused : (e : Refusal) → Ends (Err e) start size (chained ctx ls ld s at) room n → refused (number_of e) ≡ answered whole room
    walk_refused e W = answer-is (Err e) W

    module _ (x : End) (W : Ends (Ok x) start size (chained ctx ls ld s at) room n) where
      pub walk-answered : is (record { len = x.len; sum = x.sum }) ≡ answered whole room
      walk-answered = answer-is (Ok x) W

      pub walk-written : (out : List ℕ) → out ≡ finished_in size x.sum x.len n → out ≡ written whole room
      walk-written out q = go (chained ctx ls ld s at) W.bytes (walk-answered ∙ ap (λ m. answered m room) expansion-is) ∙ ap (λ m. written m room) (sym expansion-is)
        where
          go : (r : Read Chain) → n ≡ put_ahead (total_of size x.len) start r room → is (record { len = x.len; sum = x.sum }) ≡ answered (and_then r (λ p. sized size p.value)) room → out ≡ written (and_then r (λ p. sized size p.value)) room
          go (refused k) b w = not-refused _ k (sym w)
          go (is p) b w = chain-written size p.value x.len x.sum room n out b q w

-- ---- a room that is cleared
module _ (m : Answer Expansion) (room l : List ℕ) where
  pub cleared : (e k : ℕ) → refused e ≡ answered m room → l ≡ replicate k 0 → k ≡ length room → l ≡ filled m room
  cleared e k q z i = go m q
    where
      c : l ≡ replicate (length room) 0
      c = z ∙ ap (λ x. replicate x 0) i

      go : (m : Answer Expansion) → refused e ≡ answered m room → l ≡ filled m room
      go (refused n) q = c
      go (is x) q = fits (leb (length x.bytes) (length room)) q
        where
          fits : (t : Bool) → refused e ≡ choose t (is (measure_of x)) (refused 7) → l ≡ choose t (x.bytes ++ drop (length x.bytes) room) (replicate (length room) 0)
          fits true g = not-refused _ e g
          fits false g = c

  filled-go : (k : Measure) → is k ≡ answered m room → l ≡ written m room → l ≡ filled m room
  filled-go k q c = go m q c
    where
      go : (m : Answer Expansion) → is k ≡ answered m room → l ≡ written m room → l ≡ filled m room
      go (refused n) q c = not-refused _ n (sym q)
      go (is x) q c = fits (leb (length x.bytes) (length room)) q c
        where
          fits : (t : Bool) → is k ≡ choose t (is (measure_of x)) (refused 7) → l ≡ choose t (x.bytes ++ drop (length x.bytes) room) room → l ≡ choose t (x.bytes ++ drop (length x.bytes) room) (replicate (length room) 0)
          fits true g c = c
          fits false g c = not-refused _ 7 (sym g)

  pub filled_on : (x : Expanded) → of_expanded (Ok x) ≡ answered m room → l ≡ written m room → l ≡ filled m room
  filled_on x q c = filled-go (record { len = x.len; sum = x.sum }) q c

-- ---- from a room of its own to an output
pub copied-refused : (m : Answer Expansion) (room out : List ℕ) (e : ℕ) → answered m room ≡ measured m → refused e ≡ answered m room → (refused e ≡ answered m out) × (out ≡ written m out)
copied-refused (refused n) room out e big q = (q, refl)
copied-refused (is x) room out e big q = not-refused _ e (q ∙ big)

-- len bytes were filled, and the room r holds them
module _ (m : Answer Expansion) (room r out : List ℕ) (len : ℕ) (u : UdpSum) (big : answered m room ≡ measured m) (q : is (record { len = len; sum = u }) ≡ answered m room) (f : r ≡ filled m room) where
  pub copied-short : length out < len → refused 7 ≡ answered m out
  copied-short h = go m (q ∙ big)
    where
      go : (m : Answer Expansion) → is (record { len = len; sum = u }) ≡ measured m → refused 7 ≡ answered m out
      go (refused n) g = not-refused _ n (sym g)
      go (is x) g =
          let e : len ≡ length x.bytes = ap (λ v. v.len) (value-is _ _ g) in
          rw (lt-leb (length x.bytes) (length out) (omega (arith, e, h))) refl

  module _ (h : len ≤ length out) where
    pub copied-answer : is (record { len = len; sum = u }) ≡ answered m out
    copied-answer = go m (q ∙ big)
      where
        go : (m : Answer Expansion) → is (record { len = len; sum = u }) ≡ measured m → is (record { len = len; sum = u }) ≡ answered m out
        go (refused n) g = not-refused _ n (sym g)
        go (is x) g =
            let e : len ≡ length x.bytes = ap (λ v. v.len) (value-is _ _ g) in
            rw (le-leb (length x.bytes) (length out) (omega (arith, e, h))) g

    pub copied-bytes : (l : List ℕ) → l ≡ put 0 (take len (drop 0 r)) out → l ≡ written m out
    copied-bytes l c = go m q f
      where
        go : (m : Answer Expansion) → is (record { len = len; sum = u }) ≡ answered m room → r ≡ filled m room → l ≡ written m out
        go (refused n) q f = not-refused _ n (sym q)
        go (is x) q f = fits (leb (length x.bytes) (length room)) q f
          where
            fits : (t : Bool) → is (record { len = len; sum = u }) ≡ choose t (is (measure_of x)) (refused 7) → r ≡ choose t (x.bytes ++ drop (length x.bytes) room) (replicate (length room) 0) → l ≡ over (length x.bytes) x.bytes out
            fits false g f = not-refused _ 7 (sym g)
            fits true g f =
                let e : len ≡ length x.bytes = ap (λ v. v.len) (value-is _ _ g) in
                c
                ∙ ap (λ v. put 0 (take len v) out) f
                ∙ ap (λ v. put 0 (take v (x.bytes ++ drop (length x.bytes) room)) out) e
                ∙ ap (λ v. put 0 v out) (take-append_seam x.bytes (drop (length x.bytes) room))
                ∙ put_front x.bytes out (omega (arith, e, h))
                ∙ sym (over-is x.bytes out (length x.bytes) refl (omega (arith, e, h)))
