-- The walk over the headers of a frame, in code: each step of it comes to the same as what was to be read before it.
use Rattle.ieee802154.specs.declared.addr.Address.{Address}
use Rattle.std.specs.Prelude.{Result, Ok, Err, Option}
use Prim.Native.Nat.{ℕ, suc, ◌+◌, ◌-◌, ◌*◌, ◌≤◌, ◌<◌}
use native.Mathlib.Nat.{add_assoc}
use native.Mathlib.Omega.{arith}
use mathlib.Core.Bool.{Bool, true, false, ◌&&◌, ◌||◌, true≢false}
use mathlib.Core.List.{List, [], ◌∷◌, ◌++◌, append-nil}
use mathlib.Core.Path.{◌≡◌, refl, sym, ap, subst, ◌∙◌}
use lib.ListN.{length, get_or, set, take, drop}
use lib.Seq.{set-set, take-suc, take-suc-set, get_or-set_same, get_or-set_other}
use lib.Dec.{eqb, leb}
use borrow.Author.Tests.{eqb-true, eqb-false}
use Rattle.octets.specs.Read.{Answer, is, refused, Read, got, and_then, choose}
use Rattle.octets.specs.Refusal.{number_of}
use Rattle.octets.specs.Write.{put, byte_bytes, be16_bytes, be32_bytes}
use Rattle.octets.specs.declared.refusal.Refusal.{Refusal}
use Rattle.octets.specs.declared.cursor.Cursor.{Cursor}
use Rattle.octets.proofs.Spans.{not-refused}
use Rattle.octets.proofs.Puts.{more, put-append, put-none}
use Rattle.iphc.specs.Iphc.{iphc}
use Rattle.iphc.specs.declared.header.Repr.{Repr}
use Rattle.iphc.specs.declared.read.LinkAddresses.{LinkAddresses}
use Rattle.sixlowpan.specs.declared.protocol.NextHeader.{NextHeader}
use Rattle.sixlowpan.specs.declared.protocol.NextHeader.TheVariants.{Compressed, Uncompressed}
use Rattle.sixlowpan.specs.declared.nhc.UdpNhcRepr.{UdpNhcRepr}
use Rattle.expand.specs.Full.{is_absent, first_word, front_with, both_bytes, ipv6_with, udp_full, keep, kept_full}
use Rattle.expand.specs.Sum.{no_sum}
use Rattle.expand.specs.Chain.{Chain, rest, udp_then, extension, ipv6, Link, udp_link, inner_link, link, within, past, behind_next, header_then, udp_end, onward, chain, chained, next_number, head_number, full_size, ext_full, size_of, full_bytes, sum_for, sum_in, Measure, total_of, total_in}
use Rattle.expand.specs.Walk.{ext_bytes, ext_of, step_link, is_compressed, kept, start, passed, entered, fewer, around, identified, ahead_of, Room, ending, end_of, put_ahead, patch, patches, NotInner, ahead, of_walked, Onward, Refuses, Comes, Reaches, Lies, Ends}
use Rattle.expand.specs.declared.checksum.UdpSum.{UdpSum}
use Rattle.expand.specs.declared.ip.Kept.{Kept}
use Rattle.expand.specs.declared.chain.Extension.{Extension}
use Rattle.expand.specs.declared.chain.Step.{Step}
use Rattle.expand.specs.declared.chain.Way.{Way}
use Rattle.expand.specs.declared.chain.Last.{Last}
use Rattle.expand.specs.declared.chain.Reached.{Reached}
use Rattle.expand.specs.declared.chain.End.{End}
use Rattle.expand.proofs.Inverting.{invert, value-is}
use Rattle.expand.proofs.CopyLaws.{set-put, put-before}
use Rattle.expand.proofs.FullLaws.{length-ipv6, length-udp, length-ext, taken-length, kept_full_lem}
use Rattle.expand.proofs.ExpandLaws.{rest-told}
use Rattle.expand.proofs.ChainLaws.{shorter, shorter-is, chain-is, link-steps, iphc-reach, number_read, next-same}

-- ---- bytes put over others
put-over : (at : ℕ) (bs cs l : List ℕ) → length bs ≡ length cs → put at cs (put at bs l) ≡ put at cs l
unfolding put
put-over at [] [] l h = refl
put-over at [] (c ∷ cs) l h = absurd (omega (arith, h))
put-over at (b ∷ bs) [] l h = absurd (omega (arith, h))
put-over at (b ∷ bs) (c ∷ cs) l h =
    let k : length bs ≡ length cs = omega (arith, h) in
    ap (put (at + 1) cs) (set-put at (at + 1) c bs (set l at b) (omega arith) ∙ ap (put (at + 1) bs) (set-set l at b c))
    ∙ put-over (at + 1) bs cs (set l at c) k

-- in the middle of a run
put-again : (at : ℕ) (xs bs cs ys l : List ℕ) → length bs ≡ length cs → put (at + length xs) cs (put at (xs ++ (bs ++ ys)) l) ≡ put at (xs ++ (cs ++ ys)) l
put-again at xs bs cs ys l h =
    let p = at + length xs in
    let m = put at xs l in
    ap (put p cs) (put-append at xs (bs ++ ys) l ∙ put-append p bs ys m ∙ ap (λ z. put (p + z) ys (put p bs m)) h)
    ∙ put-before p cs ys (put p bs m)
    ∙ put-append p cs ys (put p bs m)
    ∙ ap (put (p + length cs) ys) (put-over p bs cs m h)
    ∙ sym (put-append p cs ys m)
    ∙ sym (put-append at xs (cs ++ ys) l)

-- the payload length of an IPv6 header, put when what follows it is there
front-apart : (h : Repr) (n z : ℕ) (r : List ℕ) → ipv6_with h n z ++ r ≡ be32_bytes (first_word h) ++ (be16_bytes z ++ (byte_bytes n ++ (byte_bytes h.hop_limit ++ (both_bytes h.src_addr h.dst_addr ++ r))))
unfolding ipv6_with front_with be32_bytes be16_bytes byte_bytes
front-apart h n z r = refl

patched : (t o : ℕ) (h : Repr) (n : ℕ) (r l : List ℕ) → put o (ipv6_with h n (t - (o + 40)) ++ r) l ≡ patch t o (put (o + 40) r (put o (ipv6_with h n 0) l))
unfolding be32_bytes be16_bytes
patched t o h n r l =
    let z = t - (o + 40) in
    let T = byte_bytes n ++ (byte_bytes h.hop_limit ++ (both_bytes h.src_addr h.dst_addr ++ r)) in
    sym (ap (put (o + 4) (be16_bytes z)) (ap (λ x. put (o + x) r (put o (ipv6_with h n 0) l)) (sym (length-ipv6 h n 0)) ∙ sym (put-append o (ipv6_with h n 0) r l) ∙ ap (λ x. put o x l) (front-apart h n 0 r))
    ∙ put-again o (be32_bytes (first_word h)) (be16_bytes 0) (be16_bytes z) T l refl
    ∙ ap (λ x. put o x l) (sym (front-apart h n z r)))

-- ---- one step after the other
pub patches-append : (t : ℕ) (ps qs l : List ℕ) → patches t (ps ++ qs) l ≡ patches t ps (patches t qs l)
unfolding patches
patches-append t [] qs l = refl
patches-append t (p ∷ ps) qs l = ap (patch t p) (patches-append t ps qs l)

-- the last of i places, put first
module _ (t : ℕ) (ps l : List ℕ) (i : ℕ) where
  pub patches-back : (x : ℕ) (o : List ℕ) → 0 < i → i ≤ length ps → x ≡ t - (get_or ps (i - 1) 0 + 40) → o ≡ put (get_or ps (i - 1) 0 + 4) (be16_bytes x) l → patches t (take i ps) l ≡ patches t (take (i - 1) ps) o
  unfolding patches
  patches-back x o h k a b =
      let j = i - 1 in
      let p = get_or ps j 0 in
      let e : i ≡ suc j = omega (arith, h) in
      ap (λ z. patches t (take z ps) l) e
      ∙ ap (λ z. patches t z l) (take-suc ps j 0 (omega (arith, h, k)))
      ∙ patches-append t (take j ps) (p ∷ []) l
      ∙ ap (patches t (take j ps)) (sym (b ∙ ap (λ z. put (p + 4) (be16_bytes z) l) a))

  pub patches-end : (m : List ℕ) → i ≤ 0 → m ≡ patches t (take i ps) l → m ≡ l
  unfolding patches
  patches-end m h e = let z : i ≡ 0 = omega (arith, h) in e ∙ ap (λ x. patches t (take x ps) l) z

pub onward-same : (w : Way) (m k : Read Chain) (l : List ℕ) → m ≡ k → Onward [] w m l w k l
unfolding patches
onward-same w m k l e = rw e (record { answer = λ size n. refl; bytes = λ t. refl })

pub onward_then : {ps qs l o u : List ℕ} {w v x : Way} {m k j : Read Chain} → Onward ps w m l v k o → Onward qs v k o x j u → Onward (ps ++ qs) w m l x j u
onward_then {ps} {qs} {u = u} {x = x} {j = j} A B = record {
  answer = λ size n. A.answer size n ∙ B.answer size n;
  bytes = λ t. A.bytes t ∙ ap (patches t ps) (B.bytes t) ∙ sym (patches-append t ps qs (put_ahead t x j u));
}

-- with one header fewer to come
pub onward-fewer : (w : Way) (m : Read Chain) (l : List ℕ) → Onward [] w m l (fewer w) m l
unfolding patches
onward-fewer w m l = record { answer = λ size n. refl; bytes = λ t. go t m }
  where
    go : (t : ℕ) (m : Read Chain) → put_ahead t w m l ≡ patches t [] (put_ahead t (fewer w) m l)
    go t (is p) = refl
    go t (refused n) = refl

-- ---- an extension header
ending-ext : (size : Option ℕ) (w : Way) (x : ℕ) (d : List ℕ) (c : Chain) (n : ℕ) → ending size w n (extension x d c) ≡ ending size (passed x (length d) w) n c
unfolding size_of sum_in
ending-ext size w x d c n = ap (λ z. and_then (total_in size z n) (λ t. is (record { len = z; sum = sum_in (eqb x 43 || w.routed) w.ip (w.at + full_size (length d)) c }))) (sym (add_assoc w.at (full_size (length d)) (size_of c)))

ext-on : (w : Way) (x y : ℕ) (d : List ℕ) (m : Read Chain) (l o : List ℕ) → ((c : Chain) (k : ℕ) → m ≡ got c k → y ≡ head_number c) → o ≡ put w.at (ext_full y d) l → Onward [] w (and_then m (λ p. got (extension x d p.value) p.next)) l (passed x (length d) w) m o
unfolding patches full_bytes
ext-on w x y d (refused n) l o f a = record { answer = λ size n. refl; bytes = λ t. refl }
ext-on w x y d (is p) l o f a =
    let c = p.value in
    record {
      answer = λ size n. ending-ext size w x d c n;
      bytes = λ t.
          let r = full_bytes t (w.at + full_size (length d)) c in
          put-append w.at (ext_full (head_number c) d) r l
          ∙ ap (λ z. put (w.at + z) r (put w.at (ext_full (head_number c) d) l)) (length-ext (head_number c) d)
          ∙ ap (λ z. put (w.at + full_size (length d)) r (put w.at (ext_full z d) l)) (sym (f c p.next refl))
          ∙ ap (put (w.at + full_size (length d)) r) (sym a);
    }

-- ---- an IPv6 header
ending-ipv6 : (size : Option ℕ) (w : Way) (h : Repr) (c : Chain) (n : ℕ) → ending size w n (ipv6 h c) ≡ ending size (entered h.src_addr.iid h.dst_addr.iid w) n c
unfolding size_of sum_in
ending-ipv6 size w h c n = ap (λ z. and_then (total_in size z n) (λ t. is (record { len = z; sum = sum_in false w.at (w.at + 40) c }))) (sym (add_assoc w.at 40 (size_of c)))

ipv6-on : (w : Way) (h : Repr) (x : ℕ) (m : Read Chain) (l o : List ℕ) → ((c : Chain) (k : ℕ) → m ≡ got c k → x ≡ head_number c) → o ≡ put w.at (ipv6_with h x 0) l → Onward (w.at ∷ []) w (and_then m (λ p. got (ipv6 h p.value) p.next)) l (entered h.src_addr.iid h.dst_addr.iid w) m o
unfolding patches full_bytes
ipv6-on w h x (refused n) l o f a = record { answer = λ size n. refl; bytes = λ t. put-none (w.at + 4) (be16_bytes (t - (w.at + 40))) [] (omega arith) }
ipv6-on w h x (is p) l o f a =
    let c = p.value in
    record {
      answer = λ size n. ending-ipv6 size w h c n;
      bytes = λ t.
          let r = full_bytes t (w.at + 40) c in
          patched t w.at h (head_number c) r l
          ∙ ap (λ z. patch t w.at (put (w.at + 40) r (put w.at (ipv6_with h z 0) l))) (sym (f c p.next refl))
          ∙ ap (λ z. patch t w.at (put (w.at + 40) r z)) (sym a);
    }

-- ---- what stands behind a next header field: one case of the code each
module _ (w : Way) (ctx s l : List ℕ) (next : NextHeader) (at : ℕ) where
  abbrev pub ahead-next : Read Chain
  ahead-next = behind_next next (chain w.left ctx (around w)) s at

  pub at_rest : is_compressed next ≡ false → Onward [] w ahead-next l w (got (rest 0 (drop at s)) at) l
  unfolding behind_next patches size_of sum_in full_bytes
  at_rest e = go next e
    where
      go : (n : NextHeader) → is_compressed n ≡ false → Onward [] w (behind_next n (chain w.left ctx (around w)) s at) l w (got (rest 0 (drop at s)) at) l
      go (Uncompressed p) e = record { answer = λ size n. refl; bytes = λ t. refl }
      go Compressed e = absurd (true≢false e)

  module _ (q : is_compressed next ≡ true) where
    -- where a step was read, the chain is what is behind it
    step_is : (k : Link) (n : ℕ) → got k n ≡ link w.left s at → ahead-next ≡ onward ctx (shorter w.left ctx) (around w) k s n
    unfolding behind_next
    step_is k n g = go next q
      where
        go : (z : NextHeader) → is_compressed z ≡ true → behind_next z (chain w.left ctx (around w)) s at ≡ onward ctx (shorter w.left ctx) (around w) k s n
        go (Uncompressed x) e = absurd (true≢false (sym e))
        go Compressed e = chain-is w.left ctx (around w) s at ∙ rw (sym g) refl

    pub at-refused : (e : Refusal) → refused (number_of e) ≡ link w.left s at → Onward [] w ahead-next l w (refused (number_of e)) l
    unfolding behind_next
    at-refused e g = onward-same w ahead-next (refused (number_of e)) l (go next q)
      where
        go : (z : NextHeader) → is_compressed z ≡ true → behind_next z (chain w.left ctx (around w)) s at ≡ refused (number_of e)
        go (Uncompressed x) e = absurd (true≢false (sym e))
        go Compressed e = chain-is w.left ctx (around w) s at ∙ rw (sym g) refl

    module _ (y : Step) (p : step_link y s ≡ link w.left s at) where
      pub at-udp : (c : Cursor) (h : UdpNhcRepr) → y ≡ Step.Udp c h → Onward [] w ahead-next l w (udp_end (around w) h s c.at) l
      unfolding onward
      at-udp c h g = onward-same w ahead-next (udp_end (around w) h s c.at) l (step_is (udp_link h) c.at (ap (λ z. step_link z s) (sym g) ∙ p))

      pub at_inner : (c : Cursor) → y ≡ Step.Inner c → Onward [] w ahead-next l w (header_then ctx (identified w.src) (identified w.dst) (chain (w.left - 1) ctx) s c.at) l
      unfolding onward
      at_inner c g =
          let k : 1 ≤ w.left = (link-steps w.left s at inner_link c.at (sym p ∙ ap (λ z. step_link z s) g)).wants in
          onward-same w ahead-next _ l (step_is inner_link c.at (ap (λ z. step_link z s) (sym g) ∙ p) ∙ ap (λ z. header_then ctx (identified w.src) (identified w.dst) z s c.at) (shorter-is w.left ctx k))

      -- an extension header was put, and the walk goes on behind it
      pub at-ext : (x : Extension) (v : Way) (len : ℕ) (o : List ℕ) → y ≡ Step.Extension x → len ≡ x.to.at - x.from.at → v ≡ passed x.number len w → o ≡ put w.at (ext_full (next_number x.next s x.to.at) (ext_bytes x s)) l
          → Onward [] w ahead-next l v (behind_next x.next (chain v.left ctx (around v)) s x.to.at) o
      unfolding onward
      at-ext x v len o g e i a =
          let t = link-steps w.left s at (ext_of x s) x.to.at (sym p ∙ ap (λ z. step_link z s) g) in
          let d = ext_bytes x s in
          let long : length d ≡ len = taken-length s x.from.at (x.to.at - x.from.at) (omega (arith, t.ends)) ∙ sym e in
          let m = behind_next x.next (chain (w.left - 1) ctx (past x.number (around w))) s x.to.at in
          let same : ahead-next ≡ and_then m (λ p. got (extension x.number d p.value) p.next) = step_is (ext_of x s) x.to.at (ap (λ z. step_link z s) (sym g) ∙ p) ∙ ap (λ z. onward ctx z (around w) (ext_of x s) s x.to.at) (shorter-is w.left ctx t.wants) in
          let on : Onward [] w (and_then m (λ p. got (extension x.number d p.value) p.next)) l (passed x.number (length d) w) m o = ext-on w x.number (next_number x.next s x.to.at) d m l o (λ c j h. number_read x.next (w.left - 1) ctx (past x.number (around w)) s x.to.at c j h) a in
          subst (λ z. Onward [] w ahead-next l z (behind_next x.next (chain z.left ctx (around z)) s x.to.at) o) (ap (λ z. passed x.number z w) long ∙ sym i)
          (subst (λ z. Onward [] w z l (passed x.number (length d) w) m o) (sym same) on)

-- ---- an IPv6 header, as it is kept
module _ (ctx s : List ℕ) (ls ld : Option Address) (at : ℕ) where
  pub kept_on : (h : Repr) (d : Cursor) (x w : ℕ) → got h d.at ≡ iphc ctx ls ld s at → x ≡ next_number h.next_header s d.at → w ≡ first_word h
      → is (record { src = h.src_addr; dst = h.dst_addr; first = w; number = x; hops = h.hop_limit; next = h.next_header; behind = d }) ≡ kept ctx ls ld s at
  kept_on h d x w g a b = rw (sym g, a, b) refl

pub record Known (ctx s : List ℕ) (ls ld : Option Address) (at : ℕ) (k : Kept) : Type 0 where
  pub header : Repr
  pub place : ℕ
  pub are-read : iphc ctx ls ld s at ≡ got header place
  pub is-kept : k ≡ keep header (next_number header.next_header s place) place

unread : {A B : Type 0} (m : Answer A) (f : A → B) (n : ℕ) → refused n ≡ and_then m (λ x. is (f x)) → m ≡ refused n
unread (is x) f n e = not-refused _ n e
unread (refused k) f n e = cc

module _ (ctx s : List ℕ) (ls ld : Option Address) (at : ℕ) where
  known : (k : Kept) → is k ≡ kept ctx ls ld s at → Known ctx s ls ld at k
  known k g =
      let i = invert (iphc ctx ls ld s at) (λ q. is (keep q.value (next_number q.value.next_header s q.next) q.next)) k (sym g) in
      record { header = i.value.value; place = i.value.next; are-read = i.first; is-kept = sym (value-is _ _ i.second) }

  unknown : (e : Refusal) → refused (number_of e) ≡ kept ctx ls ld s at → iphc ctx ls ld s at ≡ refused (number_of e)
  unknown e g = unread (iphc ctx ls ld s at) (λ q. keep q.value (next_number q.value.next_header s q.next) q.next) (number_of e) g

  pub header-facts : (k : Kept) → is k ≡ kept ctx ls ld s at → (at + 2 ≤ k.behind.at) × (k.behind.at ≤ length s)
  header-facts k g =
      let b = known k g in
      subst (λ z. (at + 2 ≤ z.behind.at) × (z.behind.at ≤ length s)) (sym b.is-kept) (iphc-reach ctx ls ld s at b.header b.place b.are-read)

  module _ (w : Way) (l : List ℕ) where
    abbrev ahead-header : Read Chain
    ahead-header = header_then ctx ls ld (chain w.left ctx) s at

    pub header_refused : (e : Refusal) → refused (number_of e) ≡ kept ctx ls ld s at → Onward (w.at ∷ []) w ahead-header l w (refused (number_of e)) l
    unfolding header_then patches
    header_refused e g = rw (unknown e g) (record { answer = λ size n. refl; bytes = λ t. put-none (w.at + 4) (be16_bytes (t - (w.at + 40))) [] (omega arith) })

    pub header-on : (k : Kept) (v : Way) (o : List ℕ) → is k ≡ kept ctx ls ld s at → v ≡ entered k.src.iid k.dst.iid w → o ≡ put w.at (kept_full k 0) l
        → Onward (w.at ∷ []) w ahead-header l v (behind_next k.next (chain v.left ctx (around v)) s k.behind.at) o
    unfolding header_then
    header-on k v o g a b =
        let i = known k g in
        let h = i.header in
        let to = i.place in
        let number = next_number h.next_header s to in
        let x = entered h.src_addr.iid h.dst_addr.iid w in
        let b2 : o ≡ put w.at (ipv6_with h number 0) l = b ∙ ap (λ z. put w.at (kept_full z 0) l) i.is-kept ∙ ap (λ z. put w.at z l) (kept_full_lem h number to 0) in
        let on : Onward (w.at ∷ []) w ahead-header l x (behind_next h.next_header (chain w.left ctx (within h)) s to) o = rw i.are-read (ipv6-on w h number (behind_next h.next_header (chain w.left ctx (within h)) s to) l o (λ c m q. number_read h.next_header w.left ctx (within h) s to c m q) b2) in
        let on2 : Onward (w.at ∷ []) w ahead-header l x (behind_next h.next_header (chain w.left ctx (around x)) s to) o = subst (λ m. Onward (w.at ∷ []) w ahead-header l x m o) (next-same h.next_header w.left ctx (within h) (around x) s to refl refl refl) on in
        subst (λ z. Onward (w.at ∷ []) w ahead-header l z (behind_next k.next (chain z.left ctx (around z)) s k.behind.at) o) (sym a)
        (subst (λ z. Onward (w.at ∷ []) w ahead-header l (entered z.src.iid z.dst.iid w) (behind_next z.next (chain w.left ctx (around (entered z.src.iid z.dst.iid w))) s z.behind.at) o) (sym i.is-kept) on2)

-- ---- from layer to layer
-- the places of the IPv6 headers: one more
module _ (ps : List ℕ) (n o : ℕ) (h : n < length ps) where
  places-more : take (n + 1) (set ps n o) ≡ take n ps ++ (o ∷ [])
  places-more = let e : n + 1 ≡ suc n = omega arith in ap (λ z. take z (set ps n o)) e ∙ take-suc-set ps n o h

  pub small-more : ((i : ℕ) → i < n → get_or ps i 0 ≤ 447) → o ≤ 447 → (i : ℕ) → i < n + 1 → get_or (set ps n o) i 0 ≤ 447
  small-more f k i j = go (eqb i n) refl
    where
      go : (t : Bool) → eqb i n ≡ t → get_or (set ps n o) i 0 ≤ 447
      go true e = rw (eqb-true i n e) (subst (λ z. z ≤ 447) (sym (get_or-set_same ps n o 0 h)) k)
      go false e = subst (λ z. z ≤ 447) (sym (get_or-set_other ps n i o 0 (eqb-false i n e))) (f i (omega (arith, j, eqb-false i n e)))

  pub layer-on : {w v x : Way} {m k j : Read Chain} {l p q : List ℕ} → Onward (take n ps) w m l v k p → Onward (o ∷ []) v k p x j q → Onward (take (n + 1) (set ps n o)) w m l x j q
  layer-on {w} {v} {x} {m} {k} {j} {l} {p} {q} A B = subst (λ z. Onward z w m l x j q) (sym places-more) (onward_then A B)

-- the last layer is put
pub lays : {ctx s l p o : List ℕ} {m k : Read Chain} {w : Way} {r : Reached} (ps : List ℕ) (n : ℕ) → n < length ps → ((i : ℕ) → i < n → get_or ps i 0 ≤ 447) → w.at ≤ 447 → n + w.left ≤ 7 → Onward (take n ps) start m l w k p → Comes ctx r (w.at ∷ []) w k s p o → NotInner r.last
    → Lies ctx (record { reached = r; count = n + 1 }) m s (set ps n w.at) l o
lays {w = w} ps n h f b c A B i = record {
  reaches = record { onward = layer-on ps n w.at h A B.onward; room = B.room; left = omega (arith, c, B.left) };
  outside = i;
  most = omega (arith, c);
  small = small-more ps n w.at h f b;
}

-- in front of the outer header
pub from_start : (ctx s l : List ℕ) (ls ld : Option Address) (at : ℕ) → Onward [] start (chained ctx ls ld s at) l start (header_then ctx ls ld (chain 7 ctx) s at) l
unfolding chained
from_start ctx s l ls ld at = onward-same start _ _ l refl

pub from-outer : (ctx s l o : List ℕ) (ls ld : Option Address) (at : ℕ) (size : Option ℕ) (y : Result End Refusal) → Ends y start size (header_then ctx ls ld (chain 7 ctx) s at) l o → Ends y start size (chained ctx ls ld s at) l o
unfolding chained
from-outer ctx s l o ls ld at size y E = E

-- what was reached behind an IPv6 header, from in front of it
pub reaches-on : {l o : List ℕ} {p : ℕ} {w v : Way} {m k : Read Chain} (ctx s u : List ℕ) (y : Result Reached Refusal) → Onward (p ∷ []) w m l v k o → v.left ≤ w.left → Reaches ctx y [] v k s o u → Reaches ctx y (p ∷ []) w m s l u
reaches-on ctx s u (Ok r) A h B = record { onward = onward_then A B.onward; room = B.room; left = omega (arith, h, B.left) }
reaches-on ctx s u (Err e) A h B = λ size n. A.answer size n ∙ B size n

-- an IPv6 header is reached: the next layer
pub inner-on : {ps l o : List ℕ} {w v : Way} {m : Read Chain} {d : Cursor} {ll : LinkAddresses} (ctx s : List ℕ) (r : Reached) → Onward ps w m l r.way (ahead ctx r s) o → r.last ≡ Last.Inner d → v ≡ fewer r.way → ll ≡ record { src = identified r.way.src; dst = identified r.way.dst }
    → Onward ps w m l v (header_then ctx ll.src ll.dst (chain v.left ctx) s d.at) o
inner-on {ps} {l} {o} {w} {v} {m} {d} {ll} ctx s r A g e i =
    let k = header_then ctx (identified r.way.src) (identified r.way.dst) (chain (r.way.left - 1) ctx) s d.at in
    let B : Onward ps w m l r.way k o = subst (λ z. Onward ps w m l r.way (ahead_of ctx r.way z s) o) g A in
    let C : Onward ps w m l (fewer r.way) k o = subst (λ z. Onward z w m l (fewer r.way) k o) (append-nil ps) (onward_then B (onward-fewer r.way k o)) in
    rw (e, i) C

pub inner_room : (s : List ℕ) (r : Reached) (d : Cursor) → r.last ≡ Last.Inner d → Room r.way r.last s → (r.way.at + 40 * r.way.left + (length s - d.at) ≤ 447) × (1 ≤ r.way.left)
inner_room s r d g b = subst (λ z. Room r.way z s) g b

-- ---- how far a step in code reads
pub ext-facts : {y : Step} {x : Extension} (left : ℕ) (s : List ℕ) (at : ℕ) → step_link y s ≡ link left s at → y ≡ Step.Extension x → (at + 2 + (x.to.at - x.from.at) ≤ x.to.at) × (x.to.at ≤ length s) × (1 ≤ left)
ext-facts {x = x} left s at p g =
    let t = link-steps left s at (ext_of x s) x.to.at (sym p ∙ ap (λ z. step_link z s) g) in
    let k : length (ext_bytes x s) ≡ x.to.at - x.from.at = taken-length s x.from.at (x.to.at - x.from.at) (omega (arith, t.ends)) in
    (omega (arith, t.reach, k), t.ends, t.wants)

pub inner-facts : {y : Step} {c : Cursor} (left : ℕ) (s : List ℕ) (at : ℕ) → step_link y s ≡ link left s at → y ≡ Step.Inner c → (at < c.at) × (c.at ≤ length s) × (1 ≤ left)
inner-facts {c = c} left s at p g =
    let t = link-steps left s at inner_link c.at (sym p ∙ ap (λ z. step_link z s) g) in
    (t.reach, t.ends, t.wants)

-- ---- the end
-- how long the whole is, where it is not refused
pub total-value : (size : Option ℕ) (e n t : ℕ) → total_in size e n ≡ is t → t ≡ total_of size e
unfolding total_in
total-value size e n t q = go (leb e (total_of size e)) (leb e n) q
  where
    go : (a b : Bool) → choose a (choose b (is (total_of size e)) (refused 7)) (refused 10) ≡ is t → t ≡ total_of size e
    go true true g = sym (value-is _ _ g)
    go true false g = not-refused _ 7 g
    go false b g = not-refused _ 10 g

-- the end of a chain c: the last refusals, and then its length
module _ (size : Option ℕ) (w : Way) (l : List ℕ) (c : Chain) (len : ℕ) (i : len ≡ w.at + size_of c) where
  abbrev sum : UdpSum
  sum = sum_in w.routed w.ip w.at c

  ends_is : (t : ℕ) (u : UdpSum) → is t ≡ total_in size len (length l) → u ≡ sum → is (record { len = len; sum = u }) ≡ ending size w (length l) c
  ends_is t u g h = subst (λ z. ◌≡◌ {A = Answer Measure} (is (record { len = len; sum = u })) (and_then (total_in size z (length l)) (λ x. is (record { len = z; sum = sum })))) i (rw (sym g, h) refl)

  ends-no : (e : Refusal) → refused (number_of e) ≡ total_in size len (length l) → refused (number_of e) ≡ ending size w (length l) c
  ends-no e g = subst (λ z. ◌≡◌ {A = Answer Measure} (refused (number_of e)) (and_then (total_in size z (length l)) (λ x. is (record { len = z; sum = sum })))) i (rw (sym g) refl)

-- the payload
module _ (size : Option ℕ) (w : Way) (s l : List ℕ) (at k : ℕ) (i : k ≡ length (drop at s)) where
  rest-size : w.at + k ≡ w.at + size_of (rest 0 (drop at s))
  unfolding size_of
  rest-size = ap (λ z. w.at + z) i

  pub ends-rest : (t : ℕ) (n : List ℕ) → is t ≡ total_in size (w.at + k) (length l) → n ≡ put w.at (take (length s) (drop at s)) l → Ends (Ok (record { len = w.at + k; sum = no_sum })) w size (got (rest 0 (drop at s)) at) l n
  unfolding full_bytes sum_in
  ends-rest t n g b = record { answer = ends_is size w l (rest 0 (drop at s)) (w.at + k) rest-size t no_sum g refl; bytes = rest-told s l n w.at at b }

  pub ends-rest-no : (e : Refusal) → refused (number_of e) ≡ total_in size (w.at + k) (length l) → Ends (Err e) w size (got (rest 0 (drop at s)) at) l l
  ends-rest-no e g = record { answer = ends-no size w l (rest 0 (drop at s)) (w.at + k) rest-size e g; bytes = tt }

-- UDP
pub ends-unknown : (size : Option ℕ) (w : Way) (h : UdpNhcRepr) (s l : List ℕ) (at : ℕ) (t : Bool) → t ≡ (w.routed && is_absent h.checksum) → t ≡ true → Ends (Err Refusal.NotExpanded) w size (udp_end (around w) h s at) l l
unfolding udp_end
ends-unknown size w h s l at t p q = rw (sym p ∙ q) (record { answer = refl; bytes = tt })

module _ (size : Option ℕ) (w : Way) (h : UdpNhcRepr) (s l : List ℕ) (at k : ℕ) (v : Bool) (p : v ≡ (w.routed && is_absent h.checksum)) (f : v ≡ false) (i : k ≡ length (drop at s)) where
  udp-size : w.at + 8 + k ≡ w.at + size_of (udp_then h (drop at s))
  unfolding size_of
  udp-size = add_assoc w.at 8 k ∙ ap (λ z. w.at + (8 + z)) i

  pub ends-udp : (t x : ℕ) (u : UdpSum) (m n : List ℕ) → is t ≡ total_in size (w.at + 8 + k) (length l) → x ≡ t - w.at → m ≡ put w.at (udp_full h x) l → n ≡ put (w.at + 8) (take (length s) (drop at s)) m → u ≡ sum_for w.routed w.ip w.at h.checksum
      → Ends (Ok (record { len = w.at + 8 + k; sum = u })) w size (udp_end (around w) h s at) l n
  unfolding udp_end full_bytes sum_in
  ends-udp t x u m n g e a b r =
      let z : x ≡ total_of size (w.at + 8 + k) - w.at = e ∙ ap (λ d. d - w.at) (total-value size (w.at + 8 + k) (length l) t (sym g)) in
      let b2 : n ≡ put (w.at + 8) (drop at s) m = rest-told s m n (w.at + 8) at b in
      let a2 : m ≡ put w.at (udp_full h (total_of size (w.at + 8 + k) - w.at)) l = a ∙ ap (λ d. put w.at (udp_full h d) l) z in
      rw (sym p ∙ f) (record {
        answer = ends_is size w l (udp_then h (drop at s)) (w.at + 8 + k) udp-size t u g r;
        bytes = more l m n w.at 8 (udp_full h (total_of size (w.at + 8 + k) - w.at)) (drop at s) (length-udp h (total_of size (w.at + 8 + k) - w.at)) a2 b2;
      })

  pub ends-udp-no : (e : Refusal) → refused (number_of e) ≡ total_in size (w.at + 8 + k) (length l) → Ends (Err e) w size (udp_end (around w) h s at) l l
  unfolding udp_end
  ends-udp-no e g = rw (sym p ∙ f) (record { answer = ends-no size w l (udp_then h (drop at s)) (w.at + 8 + k) udp-size e g; bytes = tt })

-- ---- from where the walk has come to, to the end
module _ (size : Option ℕ) (ps l o : List ℕ) (w v : Way) (m k : Read Chain) (A : Onward ps w m l v k o) (same : length o ≡ length l) where
  walked : (y : Result End Refusal) (p : List ℕ) → Ends y v size k o p → of_walked y ≡ end_of size w (length l) m
  walked y p E = E.answer ∙ ap (λ n. end_of size v n k) same ∙ sym (A.answer size (length l))

  pub walked-no : (e : Refusal) (p q : List ℕ) → Ends (Err e) v size k o p → Ends (Err e) w size m l q
  walked-no e p q E = record { answer = walked (Err e) p E; bytes = tt }

  pub walked_on : (x : End) (t : ℕ) (p q : List ℕ) → Ends (Ok x) v size k o p → t ≡ total_of size x.len → q ≡ patches t ps p → Ends (Ok x) w size m l q
  walked_on x t p q E e b = record {
    answer = walked (Ok x) p E;
    bytes = b ∙ ap (λ z. patches z ps p) e ∙ ap (patches (total_of size x.len) ps) E.bytes ∙ sym (A.bytes (total_of size x.len));
  }

-- where no payload length is still to be put
pub walked-so : (size : Option ℕ) (l o : List ℕ) (w v : Way) (m k : Read Chain) → Onward [] w m l v k o → length o ≡ length l → (y : Result End Refusal) (p : List ℕ) → Ends y v size k o p → Ends y w size m l p
unfolding patches
walked-so size l o w v m k A same (Ok x) p E = walked_on size [] l o w v m k A same x (total_of size x.len) p p E refl refl
walked-so size l o w v m k A same (Err e) p E = walked-no size [] l o w v m k A same e p p E

-- and where what is ahead is refused
pub walked-refused : (size : Option ℕ) (l p : List ℕ) (w : Way) (m : Read Chain) (e : Refusal) → Refuses e w m → Ends (Err e) w size m l p
walked-refused size l p w m e f = record { answer = sym (f size (length l)); bytes = tt }

-- one payload length
pub patch-one : (t o x : ℕ) (l q : List ℕ) → x ≡ t - (o + 40) → q ≡ put (o + 4) (be16_bytes x) l → q ≡ patches t (o ∷ []) l
unfolding patches
patch-one t o x l q a b = b ∙ ap (λ z. put (o + 4) (be16_bytes z) l) a
