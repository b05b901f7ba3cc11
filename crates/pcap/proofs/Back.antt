-- What is read as pcap is what is written of the frames read (`pcap-back`), and these are what both forms can hold (`pcap-holds`).
use Prim.Native.Nat.{ℕ, zero, suc, ◌+◌, ◌*◌, ◌/◌, ◌%◌, ◌^◌, ◌≤◌, ◌<◌}
use native.Mathlib.Omega.{arith}
use mathlib.Core.Path.{◌≡◌, refl, sym, ap, ap₂, subst, ◌∙◌}
use mathlib.Core.List.{List, [], ◌∷◌, ◌++◌, append_assoc}
use mathlib.Core.Bool.{Bool, true, false, ◌&&◌}
use lib.Dec.{eqb, leb, ltb}
use lib.ListN.{length, get_or, take, drop, length-append, length-drop, drop_of_length-le}
use lib.Seq.{length-take-le}
use borrow.Author.Tests.{eqb-true, leb-true, ltb-true}
use Rattle.octets.specs.Read.{is, refused, Read, Reader, got, and_then, choose, branch, ◌>>=◌, give, refuse, le16, le32, value_or}
use Rattle.octets.specs.Write.{le16_bytes, le32_bytes}
use Rattle.octets.proofs.Spans.{not-refused, spans-le16, spans-le32}
use Rattle.octets.proofs.Steps.{and-true}
use Rattle.capture.specs.Block.{Timed, value_of}
use Rattle.capture.specs.Made.{no_frame, Bytes, Fits}
use Rattle.capture.proofs.Parts.{split, word_back, wide_back, bytes_take, bytes_drop}
use Rattle.pcap.specs.Frames.{magic, longest, link_type, head_bytes, time_bytes, length_bytes, frame_bytes, frames_bytes, pcap_of, expect, limits, zone, version, head, whole_time, time_field, same_field, length_field, bytes_field, framed, frame_field, most_frames, frames_field, value_only, frames_of_pcap}
use Rattle.pcap.specs.Moves.{Holdable}
use Rattle.pcap.proofs.There.{zone_last, version_last, frame-length}

-- ---- a reader that gave a value, taken apart
pub record Took {A B : Type 0} (m : Reader A) (f : A → Reader B) (s : List ℕ) (at : ℕ) (b : B) (n : ℕ) : Type 0 where
  pub value : A
  pub next : ℕ
  pub first : m s at ≡ got value next
  pub rest : f value s next ≡ got b n

took-go : {A B : Type 0} (m : Reader A) (f : A → Reader B) (s : List ℕ) (at : ℕ) (b : B) (n : ℕ) (r : Read A) → m s at ≡ r → and_then r (λ p. f p.value s p.next) ≡ got b n → Took m f s at b n
took-go m f s at b n (is p) q e = record { value = p.value; next = p.next; first = q; rest = e }
took-go m f s at b n (refused x) q e = not-refused _ x e

pub took : {A B : Type 0} (m : Reader A) (f : A → Reader B) (s : List ℕ) (at : ℕ) (b : B) (n : ℕ) → ◌>>=◌ m f s at ≡ got b n → Took m f s at b n
took m f s at b n e = took-go m f s at b n (m s at) refl e

pub passed : {A : Type 0} (t : Bool) (r : Read A) (k n : ℕ) (b : A) → choose t r (refused k) ≡ got b n → (t ≡ true) × (r ≡ got b n)
passed true r k n b e = (refl, e)
passed false r k n b e = not-refused _ k e

abbrev next_of : {A : Type 0} → Read A → ℕ
next_of (is p) = p.next
next_of (refused n) = 0

pub given : {A : Type 0} (a b : A) (m n : ℕ) → got a m ≡ got b n → (a ≡ b) × (m ≡ n)
given a b m n e = (ap (value_or a) e, ap next_of e)

cast : {A : Type 0} (P : A → ℕ → Type 0) {a b : A} {m n : ℕ} → (a ≡ b) × (m ≡ n) → P a m → P b n
cast P {a} {b} {m} {n} e p = subst (λ z. P z n) e.0 (subst (P a) e.1 p)

-- ---- fields: the bytes bs stand at a place, and the next place is behind them
abbrev pub Stands : List ℕ → List ℕ → ℕ → ℕ → Type 0
Stands bs s at n = (drop at s ≡ bs ++ drop n s) × ((n ≡ at + length bs) × (n ≤ length s))

stands-then : (bs cs s : List ℕ) (at i n : ℕ) → Stands bs s at i → Stands cs s i n → Stands (bs ++ cs) s at n
stands-then bs cs s at i n p q =
    let a = p.1.0 in
    let b = q.1.0 in
    (p.0 ∙ ap (λ l. bs ++ l) q.0 ∙ sym (append_assoc bs cs (drop n s)), (omega (arith, length-append bs cs), q.1.1))

abbrev Backs : Reader ℕ → (ℕ → List ℕ) → Type 0
Backs m w = (s : List ℕ) (at x n : ℕ) → Bytes s → at ≤ length s → m s at ≡ got x n → Stands (w x) s at n

back-wide : Backs le32 le32_bytes
unfolding le32_bytes le16_bytes
back-wide s at x n y h e =
    let p = spans-le32 s at x n h e in
    let w = wide_back s at y (omega arith) in
    let a = p.0 in
    (w ∙ ap₂ (λ u v. le32_bytes u ++ drop v s) (ap value_of e) (sym p.0), (p.0, p.1))

back-word : Backs le16 le16_bytes
unfolding le16_bytes
back-word s at x n y h e =
    let p = spans-le16 s at x n h e in
    let w = word_back s at y (omega arith) in
    (w ∙ ap₂ (λ u v. le16_bytes u ++ drop v s) (ap value_of e) (sym p.0), (p.0, p.1))

-- ---- the file header
back-expect : (m : Reader ℕ) (w : ℕ → List ℕ) → Backs m w → (x r : ℕ) (s : List ℕ) (at : ℕ) (u : Unit {0}) (n : ℕ) → Bytes s → at ≤ length s → expect m x r s at ≡ got u n → Stands (w x) s at n
back-expect m w v x r s at u n y h e =
    let t = took m (λ z. branch (eqb z x) (give tt) (refuse r)) s at u n e in
    let p = passed (eqb t.value x) (got tt t.next) r n u t.rest in
    let q = v s at t.value t.next y h t.first in
    let z = (given tt u t.next n p.1).1 in
    cast (λ v i. Stands (w v) s at i) (eqb-true t.value x p.0, z) q

back-next : (m k : Reader (Unit {0})) (bs cs s : List ℕ) (at : ℕ) (u : Unit {0}) (n : ℕ) → at ≤ length s → ((u : Unit {0}) (i : ℕ) → at ≤ length s → m s at ≡ got u i → Stands bs s at i) → ((i : ℕ) → i ≤ length s → k s i ≡ got u n → Stands cs s i n) → ◌>>=◌ m (λ a. k) s at ≡ got u n → Stands (bs ++ cs) s at n
back-next m k bs cs s at u n h v w e =
    let t = took m (λ a. k) s at u n e in
    let p = v t.value t.next h t.first in
    stands-then bs cs s at t.next n p (w t.next p.1.1 t.rest)

pub back_head : (s : List ℕ) (u : Unit {0}) (n : ℕ) → Bytes s → head s 0 ≡ got u n → Stands head_bytes s 0 n
unfolding head version zone limits head_bytes
back_head s u n y e =
    let wide : (x r at : ℕ) (u : Unit {0}) (n : ℕ) → at ≤ length s → expect le32 x r s at ≡ got u n → Stands (le32_bytes x) s at n = λ x r at u n h e. back-expect le32 le32_bytes back-wide x r s at u n y h e in
    let word : (x r at : ℕ) (u : Unit {0}) (n : ℕ) → at ≤ length s → expect le16 x r s at ≡ got u n → Stands (le16_bytes x) s at n = λ x r at u n h e. back-expect le16 le16_bytes back-word x r s at u n y h e in
    back-next (expect le32 magic 2) version (le32_bytes magic) _ s 0 u n (omega arith) (wide magic 2 0)
    (λ a ha. back-next (expect le16 2 3) version_last (le16_bytes 2) _ s a u n ha (word 2 3 a)
    (λ b hb. back-next (expect le16 4 3) zone (le16_bytes 4) _ s b u n hb (word 4 3 b)
    (λ c hc. back-next (expect le32 0 3) zone_last (le32_bytes 0) _ s c u n hc (wide 0 3 c)
    (λ d hd. back-next (expect le32 0 3) limits (le32_bytes 0) _ s d u n hd (wide 0 3 d)
    (λ f hf. back-next (expect le32 longest 3) (expect le32 link_type 3) (le32_bytes longest) _ s f u n hf (wide longest 3 f)
    (λ g hg. wide link_type 3 g u n hg)))))) e

-- ---- a frame
whole_back : (sec micro : ℕ) → whole_time sec micro ≡ true → ((sec * 1000 + micro / 1000) / 1000 ≡ sec) × (((sec * 1000 + micro / 1000) % 1000 * 1000 ≡ micro) × (sec * 1000 + micro / 1000 < 2 ^ 32))
whole_back sec micro h =
    let p = and-true (ltb micro 1000000) (eqb (micro % 1000) 0 && ltb (sec * 1000 + micro / 1000) (2 ^ 32)) h in
    let q = and-true (eqb (micro % 1000) 0) (ltb (sec * 1000 + micro / 1000) (2 ^ 32)) p.1 in
    let a = ltb-true micro 1000000 p.0 in
    let b = eqb-true (micro % 1000) 0 q.0 in
    let c = ltb-true (sec * 1000 + micro / 1000) (2 ^ 32) q.1 in
    (omega arith, (omega arith, c))

back-time : (s : List ℕ) (at t n : ℕ) → Bytes s → at ≤ length s → time_field s at ≡ got t n → Stands (time_bytes t) s at n × (t < 2 ^ 32)
unfolding time_field time_bytes
back-time s at t n y h e =
    let a = took le32 (λ sec. ◌>>=◌ le32 (λ micro. branch (whole_time sec micro) (give (sec * 1000 + micro / 1000)) (refuse 18))) s at t n e in
    let sec = a.value in
    let b = took le32 (λ micro. branch (whole_time sec micro) (give (sec * 1000 + micro / 1000)) (refuse 18)) s a.next t n a.rest in
    let micro = b.value in
    let p = passed (whole_time sec micro) (got (sec * 1000 + micro / 1000) b.next) 18 n t b.rest in
    let z = given (sec * 1000 + micro / 1000) t b.next n p.1 in
    let w = whole_back sec micro p.0 in
    let u = back-wide s at sec a.next y h a.first in
    let v = back-wide s a.next micro b.next y u.1.1 b.first in
    let st = stands-then (le32_bytes sec) (le32_bytes micro) s at a.next b.next u v in
    let bs = ap₂ (λ i j. le32_bytes i ++ le32_bytes j) (sym w.0) (sym w.1.0) in
    cast (λ v i. Stands (le32_bytes (v / 1000) ++ le32_bytes (v % 1000 * 1000)) s at i × (v < 2 ^ 32)) z (subst (λ l. Stands l s at b.next) bs st, w.1.1)

pub back-length : (s : List ℕ) (at x n : ℕ) → Bytes s → at ≤ length s → length_field s at ≡ got x n → Stands (length_bytes x) s at n × (x ≤ 127)
unfolding length_field same_field length_bytes
back-length s at x n y h e =
    let a = took le32 (λ k. branch (leb k longest) (◌>>=◌ le32 (λ m. branch (eqb m k) (give k) (refuse 4))) (refuse 4)) s at x n e in
    let k = a.value in
    let o = passed (leb k longest) (◌>>=◌ le32 (λ m. branch (eqb m k) (give k) (refuse 4)) s a.next) 4 n x a.rest in
    let b = took le32 (λ m. branch (eqb m k) (give k) (refuse 4)) s a.next x n o.1 in
    let p = passed (eqb b.value k) (got k b.next) 4 n x b.rest in
    let z = given k x b.next n p.1 in
    let l = leb-true k 127 o.0 in
    let u = back-wide s at k a.next y h a.first in
    let v = back-wide s a.next b.value b.next y u.1.1 b.first in
    let st = stands-then (le32_bytes k) (le32_bytes b.value) s at a.next b.next u v in
    let bs = ap (λ i. le32_bytes k ++ le32_bytes i) (eqb-true b.value k p.0) in
    cast (λ v i. Stands (le32_bytes v ++ le32_bytes v) s at i × (v ≤ 127)) z (subst (λ l. Stands l s at b.next) bs st, l)

back-bytes : (k : ℕ) (s : List ℕ) (at : ℕ) (bs : List ℕ) (n : ℕ) → Bytes s → at ≤ length s → bytes_field k s at ≡ got bs n → Stands bs s at n × ((length bs ≡ k) × Bytes bs)
unfolding bytes_field
back-bytes k s at bs n y h e =
    let p = passed (leb (at + k) (length s)) (got (take k (drop at s)) (at + k)) 1 n bs e in
    let l = leb-true (at + k) (length s) p.0 in
    let z = given (take k (drop at s)) bs (at + k) n p.1 in
    let d : k ≤ length (drop at s) = omega (arith, length-drop at s) in
    let t = length-take-le k (drop at s) d in
    cast (λ v i. Stands v s at i × ((length v ≡ k) × Bytes v)) z ((split s at k, (ap (λ x. at + x) (sym t), l)), (t, bytes_take k (drop at s) (bytes_drop at s y)))

pub record FrameBack (f : Timed) (s : List ℕ) (at n : ℕ) : Type 0 where
  pub stands : Stands (frame_bytes f) s at n
  pub fits : Fits f

pub frame_back : (s : List ℕ) (at : ℕ) (f : Timed) (n : ℕ) → Bytes s → at ≤ length s → frame_field s at ≡ got f n → FrameBack f s at n
unfolding frame_field framed frame_bytes
frame_back s at f n y h e =
    let a = took time_field (λ t. ◌>>=◌ length_field (λ k. ◌>>=◌ (bytes_field k) (λ bs. give (record { time = t; frame = bs })))) s at f n e in
    let b = took length_field (λ k. ◌>>=◌ (bytes_field k) (λ bs. give (record { time = a.value; frame = bs }))) s a.next f n a.rest in
    let c = took (bytes_field b.value) (λ bs. give (record { time = a.value; frame = bs })) s b.next f n b.rest in
    let t = back-time s at a.value a.next y h a.first in
    let l = back-length s a.next b.value b.next y t.0.1.1 b.first in
    let m = back-bytes b.value s b.next c.value c.next y l.0.1.1 c.first in
    let g : Timed = record { time = a.value; frame = c.value } in
    let z = given g f c.next n c.rest in
    let lf = m.1.0 in
    let v = stands-then (length_bytes b.value) c.value s a.next b.next c.next l.0 m.0 in
    let w = stands-then (time_bytes a.value) (length_bytes b.value ++ c.value) s at a.next c.next t.0 v in
    let sh = l.1 in
    let fit : Fits g = record { time = t.1; short = omega arith; bytes = m.1.1 } in
    let st = subst (λ x. Stands (time_bytes a.value ++ (length_bytes x ++ c.value)) s at c.next) (sym lf) w in
    cast (λ f n. FrameBack f s at n) z (record { stands = st; fits = fit })

-- ---- frames up to the end
pub record FramesBack (fs : List Timed) (k : ℕ) (s : List ℕ) (at : ℕ) : Type 0 where
  pub bytes : drop at s ≡ frames_bytes fs
  pub each : (i : ℕ) → i < length fs → Fits (get_or fs i no_frame)
  pub few : k + length fs ≤ most_frames

no_frames : (fs : List Timed) (k : ℕ) (s : List ℕ) (at n : ℕ) → length s ≤ at → k ≤ most_frames → got [] at ≡ got fs n → FramesBack fs k s at
unfolding frames_bytes
no_frames fs k s at n h m e =
    rw (← (given [] fs at n e).0) (record { bytes = drop_of_length-le s h; each = λ i g. absurd (omega arith); few = omega arith })

each-cons : (f : Timed) (fs : List Timed) → Fits f → ((i : ℕ) → i < length fs → Fits (get_or fs i no_frame)) → (i : ℕ) → i < length (f ∷ fs) → Fits (get_or (f ∷ fs) i no_frame)
each-cons f fs x v zero h = x
each-cons f fs x v (suc i) h = v i (omega arith)

module _ (n k : ℕ) (s : List ℕ) (y : Bytes s) (m : k ≤ most_frames) where
  -- one turn, where those after it are known
  frames-go : ((at : ℕ) (fs : List Timed) (e : ℕ) → at ≤ length s → length s ≤ at + n → k + 1 ≤ most_frames → frames_field n (k + 1) s at ≡ got fs e → FramesBack fs (k + 1) s at) → (at : ℕ) (fs : List Timed) (e : ℕ) (t : Bool) → leb (length s) at ≡ t → at ≤ length s → length s ≤ at + suc n → choose t (got [] at) (and_then (frame_field s at) (λ p. choose (ltb k most_frames) (and_then (frames_field n (k + 1) s p.next) (λ q. got (p.value ∷ q.value) q.next)) (refused 18))) ≡ got fs e → FramesBack fs k s at
  unfolding frames_bytes
  frames-go ih at fs e true q h l r = no_frames fs k s at e (leb-true (length s) at q) m r
  frames-go ih at fs e false q h l r =
      let a = took frame_field (λ f s i. choose (ltb k most_frames) (and_then (frames_field n (k + 1) s i) (λ q. got (f ∷ q.value) q.next)) (refused 18)) s at fs e r in
      let p = passed (ltb k most_frames) (and_then (frames_field n (k + 1) s a.next) (λ q. got (a.value ∷ q.value) q.next)) 18 e fs a.rest in
      let km = ltb-true k most_frames p.0 in
      let b = took (frames_field n (k + 1)) (λ gs. give (a.value ∷ gs)) s a.next fs e p.1 in
      let x = frame_back s at a.value a.next y h a.first in
      let lx = frame-length a.value in
      let nx = x.stands.1.0 in
      let z = ih a.next b.value b.next x.stands.1.1 (omega arith) (omega arith) b.first in
      let fw = z.few in
      subst (λ l. FramesBack l k s at) (given (a.value ∷ b.value) fs b.next e b.rest).0 (record {
        bytes = x.stands.0 ∙ ap (λ z. frame_bytes a.value ++ z) z.bytes;
        each = each-cons a.value b.value x.fits z.each;
        few = omega arith;
      })

pub frames-back : (n k : ℕ) (s : List ℕ) (at : ℕ) (fs : List Timed) (e : ℕ) → Bytes s → at ≤ length s → length s ≤ at + n → k ≤ most_frames → frames_field n k s at ≡ got fs e → FramesBack fs k s at
unfolding frames_field
frames-back zero k s at fs e y h l m r = no_frames fs k s at e (omega arith) m r
frames-back (suc n) k s at fs e y h l m r = frames-go n k s y m (λ at fs e h l m r. frames-back n (k + 1) s at fs e y h l m r) at fs e (leb (length s) at) refl h l r

-- ---- the whole
value-go : {A : Type 0} (r : Read A) (a : A) → value_only r ≡ is a → (n : ℕ) × (r ≡ got a n)
value-go (is p) a e = let h : p.value ≡ a = cc in (p.next, ap (λ z. got z p.next) h)
value-go (refused n) a e = not-refused _ n e

pcap-go : (s : List ℕ) (fs : List Timed) (r : Read (Unit {0})) → head s 0 ≡ r → Bytes s → and_then r (λ p. value_only (frames_field (length s) 0 s p.next)) ≡ is fs → (s ≡ pcap_of fs) × Holdable fs
unfolding pcap_of
pcap-go s fs (is p) q y e =
    let h = back_head s p.value p.next y q in
    let v = value-go (frames_field (length s) 0 s p.next) fs e in
    let b = frames-back (length s) 0 s p.next fs v.0 y h.1.1 (omega arith) (omega arith) v.1 in
    let fw = b.few in
    (h.0 ∙ ap (λ z. head_bytes ++ z) b.bytes, record { each = b.each; few = omega arith })
pcap-go s fs (refused n) q y e = not-refused _ n e

pub pcap-back : (s : List ℕ) (fs : List Timed) → Bytes s → frames_of_pcap s ≡ is fs → s ≡ pcap_of fs
unfolding frames_of_pcap
pcap-back s fs y e = (pcap-go s fs (head s 0) refl y e).0

pub pcap-holds : (s : List ℕ) (fs : List Timed) → Bytes s → frames_of_pcap s ≡ is fs → Holdable fs
unfolding frames_of_pcap
pcap-holds s fs y e = (pcap-go s fs (head s 0) refl y e).1
