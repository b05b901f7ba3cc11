-- A reader reads on from any place as from the front of what is left (`Shifts`), and sees no further than the bytes that it takes
-- (`Near`): so a window onto pcap that holds three frames tells as much as all of it.
use Prim.Native.Nat.{ℕ, zero, suc, ◌+◌, ◌*◌, ◌/◌, ◌^◌, ◌≤◌, ◌<◌}
use native.Mathlib.Omega.{arith}
use mathlib.Core.Path.{◌≡◌, refl, sym, ap, ap₂, ◌∙◌}
use mathlib.Core.List.{List, [], ◌∷◌}
use mathlib.Core.Bool.{Bool, true, false}
use lib.Dec.{eqb, leb, ltb}
use lib.ListN.{length, get_or, take, drop, length-take, length-drop}
use lib.Seq.{get_or-take, get_or-drop, take-take, drop-drop}
use borrow.Author.Tests.{lt-ltb, le-ltb, le-leb, lt-leb, ltb-true, ltb-false, leb-true, leb-false}
use Rattle.octets.specs.Read.{is, refused, Read, Reader, got, and_then, choose, branch, ◌>>=◌, give, refuse, byte, le16, le32}
use Rattle.octets.proofs.Spans.{Spans, spans-byte, spans-le16, spans-le32, spans-then, spans-give, spans-guard}
use Rattle.capture.specs.Block.{Timed}
use Rattle.capture.specs.Made.{Bytes}
use Rattle.pcap.specs.Frames.{magic, longest, link_type, expect, limits, zone, version, head, whole_time, time_field, same_field, length_field, bytes_field, framed, frame_field, frames_field, most_frames}
use Rattle.pcap.proofs.Back.{back-length, frame_back}
use Rattle.pcap.proofs.There.{frame-length}

-- two tests that agree
same-ltb : (a b c d : ℕ) → (a < b → c < d) → (b ≤ a → d ≤ c) → ltb a b ≡ ltb c d
same-ltb a b c d f g = go (ltb a b) refl
  where
    go : (t : Bool) → ltb a b ≡ t → ltb a b ≡ ltb c d
    go true q = q ∙ sym (lt-ltb c d (f (ltb-true a b q)))
    go false q = q ∙ sym (le-ltb c d (g (ltb-false a b q)))

same-leb : (a b c d : ℕ) → (a ≤ b → c ≤ d) → (b < a → d < c) → leb a b ≡ leb c d
same-leb a b c d f g = go (leb a b) refl
  where
    go : (t : Bool) → leb a b ≡ t → leb a b ≡ leb c d
    go true q = q ∙ sym (le-leb c d (f (leb-true a b q)))
    go false q = q ∙ sym (lt-leb c d (g (leb-false a b q)))

-- ---- from a place on
abbrev pub shift : {A : Type 0} → ℕ → Read A → Read A
shift d r = and_then r (λ p. got p.value (d + p.next))

abbrev pub Shifts : {A : Type 0} → Reader A → Type 0
Shifts m = (s : List ℕ) (d at : ℕ) → d ≤ length s → m s (d + at) ≡ shift d (m (drop d s) at)

shifts-byte : Shifts byte
unfolding byte
shifts-byte s d at h =
    let n = length-drop d s in
    let t : ltb (d + at) (length s) ≡ ltb at (length (drop d s)) = same-ltb (d + at) (length s) at (length (drop d s)) (λ x. omega arith) (λ x. omega arith) in
    let e : d + at + 1 ≡ d + (at + 1) = omega arith in
    rw (t, ← get_or-drop d s at 0, e) (go (ltb at (length (drop d s))))
  where
    go : (t : Bool) → choose t (got (get_or (drop d s) at 0) (d + (at + 1))) (refused 1) ≡ shift d (choose t (got (get_or (drop d s) at 0) (at + 1)) (refused 1))
    go true = refl
    go false = refl

module _ {A B : Type 0} (m : Reader A) (f : A → Reader B) where
  then-go : (s : List ℕ) (d : ℕ) → ((a : A) (i : ℕ) → f a s (d + i) ≡ shift d (f a (drop d s) i)) → (r : Read A) → and_then (shift d r) (λ p. f p.value s p.next) ≡ shift d (and_then r (λ p. f p.value (drop d s) p.next))
  then-go s d w (is p) = w p.value p.next
  then-go s d w (refused x) = refl

  shifts-then : Shifts m → ((a : A) → Shifts (f a)) → Shifts (◌>>=◌ m f)
  shifts-then v w s d at h = ap (λ r. and_then r (λ p. f p.value s p.next)) (v s d at h) ∙ then-go s d (λ a i. w a s d i h) (m (drop d s) at)

shifts-give : {A : Type 0} (a : A) → Shifts (give a)
shifts-give a s d at h = refl

shifts-guard : {A : Type 0} (t : Bool) (m : Reader A) (n : ℕ) → Shifts m → Shifts (branch t m (refuse n))
shifts-guard true m n v s d at h = v s d at h
shifts-guard false m n v s d at h = refl

shifts-le16 : Shifts le16
unfolding le16
shifts-le16 = shifts-then byte (λ lo. ◌>>=◌ byte (λ hi. give (lo + hi * 256))) shifts-byte (λ lo. shifts-then byte (λ hi. give (lo + hi * 256)) shifts-byte (λ hi. shifts-give (lo + hi * 256)))

shifts-le32 : Shifts le32
unfolding le32
shifts-le32 = shifts-then le16 (λ lo. ◌>>=◌ le16 (λ hi. give (lo + hi * 2 ^ 16))) shifts-le16 (λ lo. shifts-then le16 (λ hi. give (lo + hi * 2 ^ 16)) shifts-le16 (λ hi. shifts-give (lo + hi * 2 ^ 16)))

shifts-time : Shifts time_field
unfolding time_field
shifts-time =
    shifts-then le32 (λ sec. ◌>>=◌ le32 (λ micro. branch (whole_time sec micro) (give (sec * 1000 + micro / 1000)) (refuse 18))) shifts-le32
    (λ sec. shifts-then le32 (λ micro. branch (whole_time sec micro) (give (sec * 1000 + micro / 1000)) (refuse 18)) shifts-le32
    (λ micro. shifts-guard (whole_time sec micro) (give (sec * 1000 + micro / 1000)) 18 (shifts-give (sec * 1000 + micro / 1000))))

shifts-same : (n : ℕ) → Shifts (same_field n)
unfolding same_field
shifts-same n = shifts-then le32 (λ m. branch (eqb m n) (give n) (refuse 4)) shifts-le32 (λ m. shifts-guard (eqb m n) (give n) 4 (shifts-give n))

shifts-length : Shifts length_field
unfolding length_field
shifts-length = shifts-then le32 (λ n. branch (leb n longest) (same_field n) (refuse 4)) shifts-le32 (λ n. shifts-guard (leb n longest) (same_field n) 4 (shifts-same n))

shifts-bytes : (n : ℕ) → Shifts (bytes_field n)
unfolding bytes_field
shifts-bytes n s d at h =
    let l = length-drop d s in
    let t : leb (d + at + n) (length s) ≡ leb (at + n) (length (drop d s)) = same-leb (d + at + n) (length s) (at + n) (length (drop d s)) (λ x. omega arith) (λ x. omega arith) in
    let e : d + at + n ≡ d + (at + n) = omega arith in
    ap₂ (λ b i. choose b (got (take n (drop (d + at) s)) i) (refused 1)) t e
    ∙ ap (λ z. choose (leb (at + n) (length (drop d s))) (got (take n z) (d + (at + n))) (refused 1)) (sym (drop-drop at d s))
    ∙ go (leb (at + n) (length (drop d s)))
  where
    go : (t : Bool) → choose t (got (take n (drop at (drop d s))) (d + (at + n))) (refused 1) ≡ shift d (choose t (got (take n (drop at (drop d s))) (at + n)) (refused 1))
    go true = refl
    go false = refl

shifts-framed : (t n : ℕ) → Shifts (framed t n)
unfolding framed
shifts-framed t n = shifts-then (bytes_field n) (λ bs. give (record { time = t; frame = bs })) (shifts-bytes n) (λ bs. shifts-give (record { time = t; frame = bs }))

shifts-frame : Shifts frame_field
unfolding frame_field
shifts-frame =
    shifts-then time_field (λ t. ◌>>=◌ length_field (λ n. framed t n)) shifts-time
    (λ t. shifts-then length_field (λ n. framed t n) shifts-length (λ n. shifts-framed t n))

module _ (n k : ℕ) (s : List ℕ) (d : ℕ) (ih : (at : ℕ) → frames_field n (k + 1) s (d + at) ≡ shift d (frames_field n (k + 1) (drop d s) at)) where
  cons-go : (f : Timed) (r : Read (List Timed)) → and_then (shift d r) (λ q. got (f ∷ q.value) q.next) ≡ shift d (and_then r (λ q. got (f ∷ q.value) q.next))
  cons-go f (is q) = refl
  cons-go f (refused x) = refl

  one-go : (f : Timed) (i : ℕ) (t : Bool) → choose t (and_then (frames_field n (k + 1) s (d + i)) (λ q. got (f ∷ q.value) q.next)) (refused 18) ≡ shift d (choose t (and_then (frames_field n (k + 1) (drop d s) i) (λ q. got (f ∷ q.value) q.next)) (refused 18))
  one-go f i true = ap (λ r. and_then r (λ q. got (f ∷ q.value) q.next)) (ih i) ∙ cons-go f (frames_field n (k + 1) (drop d s) i)
  one-go f i false = refl

  shift-go : (at : ℕ) (t : Bool) (r : Read Timed) → choose t (got [] (d + at)) (and_then (shift d r) (λ p. choose (ltb k most_frames) (and_then (frames_field n (k + 1) s p.next) (λ q. got (p.value ∷ q.value) q.next)) (refused 18))) ≡ shift d (choose t (got [] at) (and_then r (λ p. choose (ltb k most_frames) (and_then (frames_field n (k + 1) (drop d s) p.next) (λ q. got (p.value ∷ q.value) q.next)) (refused 18))))
  shift-go at true r = refl
  shift-go at false (is p) = one-go p.value p.next (ltb k most_frames)
  shift-go at false (refused x) = refl

pub frames-shift : (n k : ℕ) (s : List ℕ) (d : ℕ) → d ≤ length s → (at : ℕ) → frames_field n k s (d + at) ≡ shift d (frames_field n k (drop d s) at)
unfolding frames_field
frames-shift zero k s d h at = refl
frames-shift (suc n) k s d h at =
    let l = length-drop d s in
    let t : leb (length s) (d + at) ≡ leb (length (drop d s)) at = same-leb (length s) (d + at) (length (drop d s)) at (λ x. omega arith) (λ x. omega arith) in
    ap₂ (λ b r. choose b (got [] (d + at)) (and_then r (λ p. choose (ltb k most_frames) (and_then (frames_field n (k + 1) s p.next) (λ q. got (p.value ∷ q.value) q.next)) (refused 18)))) t (shifts-frame s d at h)
    ∙ shift-go n k s d (λ i. frames-shift n (k + 1) s d h i) at (leb (length (drop d s)) at) (frame_field (drop d s) at)

-- ---- no further than w bytes
abbrev pub Near : {A : Type 0} → Reader A → ℕ → Type 0
Near m w = (N : ℕ) (s : List ℕ) (at : ℕ) → at ≤ length s → at + w ≤ N → m (take N s) at ≡ m s at

near_byte : Near byte 1
unfolding byte
near_byte N s at h l =
    let n = length-take N s in
    let a : at < N = omega arith in
    let t : ltb at (length (take N s)) ≡ ltb at (length s) = same-ltb at (length (take N s)) at (length s) (λ x. omega arith) (λ x. omega arith) in
    ap₂ (λ b x. choose b (got x (at + 1)) (refused 1)) t (get_or-take N s at 0 a)

module _ {A B : Type 0} (m : Reader A) (f : A → Reader B) (j k : ℕ) (v : Near m j) (w : Spans m j) (u : (a : A) → Near (f a) k) where
  near-go : (N : ℕ) (s : List ℕ) (at : ℕ) → at ≤ length s → at + (j + k) ≤ N → (r : Read A) → m s at ≡ r → and_then r (λ p. f p.value (take N s) p.next) ≡ and_then r (λ p. f p.value s p.next)
  near-go N s at h l (is p) q =
      let x = w s at p.value p.next h q in
      let y = x.0 in
      u p.value N s p.next x.1 (omega arith)
  near-go N s at h l (refused z) q = refl

  near-then : Near (◌>>=◌ m f) (j + k)
  near-then N s at h l = ap (λ r. and_then r (λ p. f p.value (take N s) p.next)) (v N s at h (omega arith)) ∙ near-go N s at h l (m s at) refl

near-map : {A B : Type 0} (m : Reader A) (f : A → B) (k : ℕ) → Near m k → Near (◌>>=◌ m (λ a. give (f a))) k
near-map m f k v N s at h l = ap (λ r. and_then r (λ p. got (f p.value) p.next)) (v N s at h l)

-- a field that is judged
near-test : {A B : Type 0} (m : Reader A) (t : A → Bool) (f : A → B) (x k : ℕ) → Near m k → Near (◌>>=◌ m (λ a. branch (t a) (give (f a)) (refuse x))) k
near-test m t f x k v N s at h l = ap (λ r. and_then r (λ p. choose (t p.value) (got (f p.value) p.next) (refused x))) (v N s at h l)

near-guard : {A : Type 0} (t : Bool) (m : Reader A) (x k : ℕ) → Near m k → Near (branch t m (refuse x)) k
near-guard true m x k v N s at h l = v N s at h l
near-guard false m x k v N s at h l = refl

near-le16 : Near le16 2
unfolding le16
near-le16 = near-then byte (λ lo. ◌>>=◌ byte (λ hi. give (lo + hi * 256))) 1 1 near_byte spans-byte (λ lo. near-map byte (λ hi. lo + hi * 256) 1 near_byte)

near-le32 : Near le32 4
unfolding le32
near-le32 = near-then le16 (λ lo. ◌>>=◌ le16 (λ hi. give (lo + hi * 2 ^ 16))) 2 2 near-le16 spans-le16 (λ lo. near-map le16 (λ hi. lo + hi * 2 ^ 16) 2 near-le16)

-- ---- the file header
near-wide : (x r : ℕ) → Near (expect le32 x r) 4
near-wide x r = near-test le32 (λ y. eqb y x) (λ y. tt) r 4 near-le32

near_word : (x r : ℕ) → Near (expect le16 x r) 2
near_word x r = near-test le16 (λ y. eqb y x) (λ y. tt) r 2 near-le16

spans-wide : (x r : ℕ) → Spans (expect le32 x r) 4
spans-wide x r = spans-then le32 (λ y. branch (eqb y x) (give tt) (refuse r)) 4 0 spans-le32 (λ y. spans-guard (eqb y x) (give tt) r 0 (spans-give tt))

spans-word : (x r : ℕ) → Spans (expect le16 x r) 2
spans-word x r = spans-then le16 (λ y. branch (eqb y x) (give tt) (refuse r)) 2 0 spans-le16 (λ y. spans-guard (eqb y x) (give tt) r 0 (spans-give tt))

near-limits : Near limits 8
unfolding limits
near-limits = near-then (expect le32 longest 3) (λ a. expect le32 link_type 3) 4 4 (near-wide longest 3) (spans-wide longest 3) (λ a. near-wide link_type 3)

near-zone : Near zone 16
unfolding zone
near-zone =
    near-then (expect le32 0 3) (λ a. ◌>>=◌ (expect le32 0 3) (λ b. limits)) 4 12 (near-wide 0 3) (spans-wide 0 3)
    (λ a. near-then (expect le32 0 3) (λ b. limits) 4 8 (near-wide 0 3) (spans-wide 0 3) (λ b. near-limits))

near-version : Near version 20
unfolding version
near-version =
    near-then (expect le16 2 3) (λ a. ◌>>=◌ (expect le16 4 3) (λ b. zone)) 2 18 (near_word 2 3) (spans-word 2 3)
    (λ a. near-then (expect le16 4 3) (λ b. zone) 2 16 (near_word 4 3) (spans-word 4 3) (λ b. near-zone))

near-head : Near head 24
unfolding head
near-head = near-then (expect le32 magic 2) (λ a. version) 4 20 (near-wide magic 2) (spans-wide magic 2) (λ a. near-version)

pub head-window : (w : ℕ) (s : List ℕ) → 24 ≤ w → head (take w s) 0 ≡ head s 0
head-window w s h = near-head w s 0 (omega arith) (omega arith)

-- ---- a frame
near-time : Near time_field 8
unfolding time_field
near-time =
    near-then le32 (λ sec. ◌>>=◌ le32 (λ micro. branch (whole_time sec micro) (give (sec * 1000 + micro / 1000)) (refuse 18))) 4 4 near-le32 spans-le32
    (λ sec. near-test le32 (λ micro. whole_time sec micro) (λ micro. sec * 1000 + micro / 1000) 18 4 near-le32)

spans-time : Spans time_field 8
unfolding time_field
spans-time =
    spans-then le32 (λ sec. ◌>>=◌ le32 (λ micro. branch (whole_time sec micro) (give (sec * 1000 + micro / 1000)) (refuse 18))) 4 4 spans-le32
    (λ sec. spans-then le32 (λ micro. branch (whole_time sec micro) (give (sec * 1000 + micro / 1000)) (refuse 18)) 4 0 spans-le32 (λ micro. spans-guard (whole_time sec micro) (give (sec * 1000 + micro / 1000)) 18 0 (spans-give (sec * 1000 + micro / 1000))))

near_same : (n : ℕ) → Near (same_field n) 4
unfolding same_field
near_same n = near-test le32 (λ m. eqb m n) (λ m. n) 4 4 near-le32

spans-same : (n : ℕ) → Spans (same_field n) 4
unfolding same_field
spans-same n = spans-then le32 (λ m. branch (eqb m n) (give n) (refuse 4)) 4 0 spans-le32 (λ m. spans-guard (eqb m n) (give n) 4 0 (spans-give n))

near-length : Near length_field 8
unfolding length_field
near-length = near-then le32 (λ n. branch (leb n longest) (same_field n) (refuse 4)) 4 4 near-le32 spans-le32 (λ n. near-guard (leb n longest) (same_field n) 4 4 (near_same n))

spans-length : Spans length_field 8
unfolding length_field
spans-length = spans-then le32 (λ n. branch (leb n longest) (same_field n) (refuse 4)) 4 4 spans-le32 (λ n. spans-guard (leb n longest) (same_field n) 4 4 (spans-same n))

take_in : (at n N : ℕ) (s : List ℕ) → at + n ≤ N → take n (drop at (take N s)) ≡ take n (drop at s)
take_in zero n N s h = take-take n N s (omega arith)
take_in (suc at) n zero s h = absurd (omega arith)
take_in (suc at) zero (suc N) [] h = refl
take_in (suc at) (suc n) (suc N) [] h = refl
take_in (suc at) n (suc N) (x ∷ s) h = take_in at n N s (omega arith)

near-bytes : (n : ℕ) → Near (bytes_field n) n
unfolding bytes_field
near-bytes n N s at h l =
    let e = length-take N s in
    let t : leb (at + n) (length (take N s)) ≡ leb (at + n) (length s) = same-leb (at + n) (length (take N s)) (at + n) (length s) (λ x. omega arith) (λ x. omega arith) in
    ap₂ (λ b z. choose b (got z (at + n)) (refused 1)) t (take_in at n N s l)

near-framed : (t n : ℕ) → Near (framed t n) n
unfolding framed
near-framed t n = near-map (bytes_field n) (λ bs. record { time = t; frame = bs }) n (near-bytes n)

module _ (N : ℕ) (s : List ℕ) (y : Bytes s) where
  length-go : (t at : ℕ) → at ≤ length s → at + 135 ≤ N → (r : Read ℕ) → length_field s at ≡ r → and_then r (λ p. framed t p.value (take N s) p.next) ≡ and_then r (λ p. framed t p.value s p.next)
  length-go t at h l (is p) q =
      let x = spans-length s at p.value p.next h q in
      let z = x.0 in
      let b = (back-length s at p.value p.next y h q).1 in
      near-framed t p.value N s p.next x.1 (omega arith)
  length-go t at h l (refused x) q = refl

  time-go : (at : ℕ) → at ≤ length s → at + 143 ≤ N → (r : Read ℕ) → time_field s at ≡ r → and_then r (λ p. ◌>>=◌ length_field (λ n. framed p.value n) (take N s) p.next) ≡ and_then r (λ p. ◌>>=◌ length_field (λ n. framed p.value n) s p.next)
  time-go at h l (is p) q =
      let x = spans-time s at p.value p.next h q in
      let z = x.0 in
      let m : p.next + 135 ≤ N = omega arith in
      ap (λ r. and_then r (λ u. framed p.value u.value (take N s) u.next)) (near-length N s p.next x.1 (omega arith)) ∙ length-go p.value p.next x.1 m (length_field s p.next) refl
  time-go at h l (refused x) q = refl

  frame-near : (at : ℕ) → at ≤ length s → at + 143 ≤ N → frame_field (take N s) at ≡ frame_field s at
  unfolding frame_field
  frame-near at h l = ap (λ r. and_then r (λ p. ◌>>=◌ length_field (λ n. framed p.value n) (take N s) p.next)) (near-time N s at h (omega arith)) ∙ time-go at h l (time_field s at) refl

  -- ---- and n frames
  module _ (n k : ℕ) (ih : (at : ℕ) → at ≤ length s → at + 143 * n ≤ N → frames_field n (k + 1) (take N s) at ≡ frames_field n (k + 1) s at) where
    many-go : (at : ℕ) → at ≤ length s → at + 143 * suc n ≤ N → (t : Bool) (r : Read Timed) → frame_field s at ≡ r → choose t (got [] at) (and_then r (λ p. choose (ltb k most_frames) (and_then (frames_field n (k + 1) (take N s) p.next) (λ q. got (p.value ∷ q.value) q.next)) (refused 18))) ≡ choose t (got [] at) (and_then r (λ p. choose (ltb k most_frames) (and_then (frames_field n (k + 1) s p.next) (λ q. got (p.value ∷ q.value) q.next)) (refused 18)))
    many-go at h l true r q = refl
    many-go at h l false (is p) q =
        let x = frame_back s at p.value p.next y h q in
        let a = x.stands.1.0 in
        let b = x.fits.short in
        let m : p.next + 143 * n ≤ N = omega (arith, frame-length p.value) in
        ap (λ z. choose (ltb k most_frames) (and_then z (λ q. got (p.value ∷ q.value) q.next)) (refused 18)) (ih p.next x.stands.1.1 m)
    many-go at h l false (refused x) q = refl

  pub frames-near : (n k at : ℕ) → at ≤ length s → at + 143 * n ≤ N → frames_field n k (take N s) at ≡ frames_field n k s at
  unfolding frames_field
  frames-near zero k at h l = refl
  frames-near (suc n) k at h l =
      let e = length-take N s in
      let t : leb (length (take N s)) at ≡ leb (length s) at = same-leb (length (take N s)) at (length s) at (λ x. omega arith) (λ x. omega arith) in
      ap₂ (λ b r. choose b (got [] at) (and_then r (λ p. choose (ltb k most_frames) (and_then (frames_field n (k + 1) (take N s) p.next) (λ q. got (p.value ∷ q.value) q.next)) (refused 18)))) t (frame-near at h (omega arith))
      ∙ many-go n k (λ i g m. frames-near n (k + 1) i g m) at h l (leb (length s) at) (frame_field s at) refl
