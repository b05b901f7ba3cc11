-- Reading gives back the frames of which pcap was written (`pcap-read`).
use Prim.Native.Nat.{ℕ, zero, suc, ◌+◌, ◌*◌, ◌/◌, ◌%◌, ◌^◌, ◌≤◌, ◌<◌}
use native.Mathlib.Nat.{add-zero, zero-add}
use native.Mathlib.Omega.{arith}
use mathlib.Core.Path.{◌≡◌, refl, sym, ap, ◌∙◌}
use mathlib.Core.List.{List, [], ◌∷◌, ◌++◌, append_assoc}
use mathlib.Core.Bool.{true}
use lib.Dec.{eqb, leb}
use lib.ListN.{length, get_or, length-append}
use lib.Seq.{take_at, drop_at}
use borrow.Author.Tests.{eq-eqb, le-leb, lt-leb, lt-ltb}
use Rattle.octets.specs.Read.{is, Reader, got, branch, ◌>>=◌, give, refuse, le16, le32}
use Rattle.octets.specs.Write.{le16_bytes, le32_bytes}
use Rattle.octets.proofs.RoundTrip.{Reads, reads_then, reads-last, reads-if, reads_as, reads-map, reads-give, reads-le16, reads-le32}
use Rattle.capture.specs.Block.{Timed}
use Rattle.capture.specs.Made.{no_frame, Fits}
use Rattle.pcap.specs.Frames.{magic, longest, link_type, head_bytes, time_bytes, length_bytes, frame_bytes, frames_bytes, pcap_of, expect, limits, zone, version, head, whole_time, time_field, same_field, length_field, bytes_field, framed, frame_field, most_frames, frames_field, frames_of_pcap}
use Rattle.pcap.specs.Moves.{Holdable}

-- ---- the file header
reads-expect : (m : Reader ℕ) (bs : List ℕ) (x n : ℕ) → Reads m bs x → Reads (expect m x n) bs tt
reads-expect m bs x n r =
    reads-last m (λ y. branch (eqb y x) (give tt) (refuse n)) bs x tt r
    (reads-if (eqb x x) (give tt) (refuse n) [] tt (eq-eqb x x refl) (reads-give tt))

expect-wide : (x n : ℕ) → Reads (expect le32 x n) (le32_bytes x) tt
expect-wide x n = reads-expect le32 (le32_bytes x) x n (reads-le32 x)

expect-word : (x n : ℕ) → Reads (expect le16 x n) (le16_bytes x) tt
expect-word x n = reads-expect le16 (le16_bytes x) x n (reads-le16 x)

reads-next : (m : Reader (Unit {0})) (k : Reader (Unit {0})) (cs bs : List ℕ) → Reads m cs tt → Reads k bs tt → Reads (◌>>=◌ m (λ a. k)) (cs ++ bs) tt
reads-next m k cs bs r t = reads_then m (λ a. k) cs bs tt tt r t

-- the header behind its fourth and its second field
abbrev pub zone_last : Reader (Unit {0})
zone_last = ◌>>=◌ (expect le32 0 3) (λ a. limits)

abbrev pub version_last : Reader (Unit {0})
version_last = ◌>>=◌ (expect le16 4 3) (λ a. zone)

reads-head : Reads head head_bytes tt
unfolding head version zone limits head_bytes
reads-head =
    reads-next (expect le32 magic 2) version (le32_bytes magic) _ (expect-wide magic 2)
    (reads-next (expect le16 2 3) version_last (le16_bytes 2) _ (expect-word 2 3)
    (reads-next (expect le16 4 3) zone (le16_bytes 4) _ (expect-word 4 3)
    (reads-next (expect le32 0 3) zone_last (le32_bytes 0) _ (expect-wide 0 3)
    (reads-next (expect le32 0 3) limits (le32_bytes 0) _ (expect-wide 0 3)
    (reads-next (expect le32 longest 3) (expect le32 link_type 3) (le32_bytes longest) _ (expect-wide longest 3) (expect-wide link_type 3))))))

-- ---- a frame
whole : (t : ℕ) → t < 2 ^ 32 → whole_time (t / 1000) (t % 1000 * 1000) ≡ true
whole t h =
    let a : t % 1000 * 1000 < 1000000 = omega arith in
    let b : t % 1000 * 1000 % 1000 ≡ 0 = omega arith in
    let c : t / 1000 * 1000 + t % 1000 * 1000 / 1000 < 2 ^ 32 = omega arith in
    rw (lt-ltb _ _ a, eq-eqb _ _ b, lt-ltb _ _ c) refl

reads-time : (t : ℕ) → t < 2 ^ 32 → Reads time_field (time_bytes t) t
unfolding time_field time_bytes
reads-time t h =
    let sec = t / 1000 in
    let micro = t % 1000 * 1000 in
    let e : sec * 1000 + micro / 1000 ≡ t = omega arith in
    let last : (x : ℕ) → Reader ℕ = λ x. branch (whole_time sec x) (give (sec * 1000 + x / 1000)) (refuse 18) in
    reads_then le32 (λ s. ◌>>=◌ le32 (λ x. branch (whole_time s x) (give (s * 1000 + x / 1000)) (refuse 18))) (le32_bytes sec) (le32_bytes micro) sec t (reads-le32 sec)
    (reads-last le32 last (le32_bytes micro) micro t (reads-le32 micro)
    (reads-if (whole_time sec micro) (give (sec * 1000 + micro / 1000)) (refuse 18) [] t (whole t h) (reads_as (give (sec * 1000 + micro / 1000)) [] _ t e (reads-give _))))

reads-length : (n : ℕ) → n ≤ 127 → Reads length_field (length_bytes n) n
unfolding length_field same_field length_bytes
reads-length n h =
    let last : (x : ℕ) → Reader ℕ = λ x. branch (eqb x n) (give n) (refuse 4) in
    reads_then le32 (λ a. branch (leb a longest) (◌>>=◌ le32 (λ x. branch (eqb x a) (give a) (refuse 4))) (refuse 4)) (le32_bytes n) (le32_bytes n) n n (reads-le32 n)
    (reads-if (leb n longest) (◌>>=◌ le32 last) (refuse 4) (le32_bytes n) n (le-leb n 127 h)
    (reads-last le32 last (le32_bytes n) n n (reads-le32 n) (reads-if (eqb n n) (give n) (refuse 4) [] n (eq-eqb n n refl) (reads-give n))))

reads_bytes : (bs : List ℕ) → Reads (bytes_field (length bs)) bs bs
unfolding bytes_field
reads_bytes bs p q n e =
    let h : n + length bs ≤ length (p ++ (bs ++ q)) = omega (arith, length-append p (bs ++ q), length-append bs q) in
    rw (le-leb (n + length bs) (length (p ++ (bs ++ q))) h, drop_at p (bs ++ q) n e, take_at bs q (length bs) refl) refl

pub reads-frame : (f : Timed) → f.time < 2 ^ 32 → length f.frame ≤ 127 → Reads frame_field (frame_bytes f) f
unfolding frame_field framed frame_bytes
reads-frame f h l =
    let n = length f.frame in
    let made : List ℕ → Timed = λ bs. record { time = f.time; frame = bs } in
    reads_then time_field (λ t. ◌>>=◌ length_field (λ a. ◌>>=◌ (bytes_field a) (λ bs. give (record { time = t; frame = bs })))) (time_bytes f.time) _ f.time f (reads-time f.time h)
    (reads_then length_field (λ a. ◌>>=◌ (bytes_field a) (λ bs. give (made bs))) (length_bytes n) f.frame n f (reads-length n l)
    (reads-map (bytes_field n) made f.frame f.frame (reads_bytes f.frame)))

-- ---- frames up to the end
pub frame-length : (f : Timed) → length (frame_bytes f) ≡ 16 + length f.frame
unfolding frame_bytes time_bytes length_bytes le32_bytes le16_bytes
frame-length f = omega arith

pub frames-count : (fs : List Timed) → length fs ≤ length (frames_bytes fs)
unfolding frames_bytes
frames-count [] = omega arith
frames-count (f ∷ fs) = omega (arith, length-append (frame_bytes f) (frames_bytes fs), frame-length f, frames-count fs)

frames-read : (fs : List Timed) (n k at : ℕ) (p : List ℕ) → length p ≡ at → length fs ≤ n → k + length fs ≤ most_frames → ((i : ℕ) → i < length fs → Fits (get_or fs i no_frame)) → frames_field n k (p ++ frames_bytes fs) at ≡ got fs (at + length (frames_bytes fs))
unfolding frames_field frames_bytes
frames-read [] zero k at p e h m v = ap (got []) (sym (add-zero at))
frames-read [] (suc n) k at p e h m v =
    let l : length (p ++ []) ≤ at = omega (arith, length-append p []) in
    rw (le-leb (length (p ++ [])) at l) (ap (got []) (sym (add-zero at)))
frames-read (f ∷ fs) zero k at p e h m v = absurd (omega arith)
frames-read (f ∷ fs) (suc n) k at p e h m v =
    let b = frame_bytes f in
    let s = p ++ (b ++ frames_bytes fs) in
    let x = v 0 (omega arith) in
    let lb = frame-length f in
    let lt : at < length s = omega (arith, length-append p (b ++ frames_bytes fs), length-append b (frames_bytes fs)) in
    let km : k < most_frames = omega arith in
    let q : length (p ++ b) ≡ at + length b = length-append p b ∙ ap (λ z. z + length b) e in
    let ih = frames-read fs n (k + 1) (at + length b) (p ++ b) q (omega arith) (omega arith) (λ i g. v (suc i) (omega arith)) in
    let z : at + length b + length (frames_bytes fs) ≡ at + length (b ++ frames_bytes fs) = omega (arith, length-append b (frames_bytes fs)) in
    rw (lt-leb (length s) at lt, reads-frame f x.time x.short p (frames_bytes fs) at e, lt-ltb k most_frames km)
    (rw (← append_assoc p b (frames_bytes fs), ih) (ap (got (f ∷ fs)) z))

pub pcap-read : (fs : List Timed) → Holdable fs → frames_of_pcap (pcap_of fs) ≡ is fs
unfolding frames_of_pcap pcap_of
pcap-read fs v =
    let s = head_bytes ++ frames_bytes fs in
    let l : length fs ≤ length s = omega (arith, frames-count fs, length-append head_bytes (frames_bytes fs)) in
    rw (reads-head [] (frames_bytes fs) 0 refl, frames-read fs (length s) 0 (0 + length head_bytes) head_bytes (sym (zero-add _)) l (omega (arith, v.few)) v.each) refl
