-- A part and one slot: what the functions on one slot do, answer by answer.
use Prim.Native.Nat.{ℕ, ◌+◌, ◌*◌, ◌-◌, ◌≤◌, ◌<◌}
use native.Mathlib.Nat.{sub-zero}
use mathlib.Core.Path.{◌≡◌, refl, sym, ap, ◌∙◌}
use mathlib.Core.Logic.{◌⊎◌, inl, inr}
use mathlib.Core.Bool.{Bool, true, false, true≢false, not, ◌&&◌}
use mathlib.Core.List.{List, ◌++◌}
use lib.ListN.{length, get_or, take, drop}
use lib.Seq.{length-take-le}
use borrow.Author.Tests.{le-leb}
use native.Mathlib.Omega.{arith}
use Rattle.octets.specs.Write.{put, be16_bytes}
use Rattle.marks.specs.Marks.{has_in, unpack}
use Rattle.octets.proofs.Puts.{put_front}
use Rattle.octets.proofs.Steps.{and-true}
use Rattle.expand.specs.Sum.{checksum_at, summed_at, was_elided, stands, summed_by, summed_in, holds, holds_in}
use Rattle.expand.specs.declared.checksum.UdpSum.{UdpSum}
use Rattle.expand.proofs.CopyLaws.{length-put}
use Rattle.expand.proofs.SumLaws.{summed-put, stands-facts, length-summed, summed-front}
use Rattle.octets.specs.declared.refusal.Refusal.{Refusal}
use Rattle.std.specs.Prelude.{Ok, Err}
use Rattle.reassembly.specs.Slots.{free_slot}
use Rattle.reassembly.specs.Parts.{Part, Reply, kept, out, refused, told, Answered, output_after, repeats, touches, taken_in, taken, written, units, full, finish, handed, Hands, place, offer, Does}
use Rattle.reassembly.proofs.Tests.{by-test}
use Rattle.reassembly.proofs.Lists.{get_or-sets-before, get_or-sets-after, put-sets}
use Rattle.reassembly.specs.declared.slot.Key.{Key}
use Rattle.reassembly.specs.declared.slot.Slot.{Slot}
use Rattle.reassembly.specs.declared.part.Outcome.{Outcome}
use Rattle.reassembly.specs.declared.part.InSlot.{InSlot}

pub length-finish : (m : UdpSum) (d : List ℕ) → length (finish m d) ≡ length d
length-finish m d = length-summed m d

summed-byte : (i u : ℕ) (d : List ℕ) (x : ℕ) → u + 8 ≤ length d → (x < u + 6) ⊎ (u + 8 ≤ x) → get_or (summed_at i u d) x 0 ≡ get_or d x 0
unfolding be16_bytes
summed-byte i u d x l (inl h) = rw (summed-put i u d, put-sets (u + 6) (be16_bytes (checksum_at i u d)) d (omega arith)) (get_or-sets-before (be16_bytes (checksum_at i u d)) d (u + 6) x 0 h)
summed-byte i u d x l (inr h) = rw (summed-put i u d, put-sets (u + 6) (be16_bytes (checksum_at i u d)) d (omega arith)) (get_or-sets-after (be16_bytes (checksum_at i u d)) d (u + 6) x 0 (omega arith))

-- a computed checksum aside, each byte is handed out as it stands in the slot
pub finish-byte : (m : UdpSum) (d : List ℕ) (x : ℕ) → (was_elided m ≡ true → (x < m.udp + 6) ⊎ (m.udp + 8 ≤ x)) → get_or (finish m d) x 0 ≡ get_or d x 0
unfolding summed_by
finish-byte m d x h = by-test (was_elided m && stands m (length d))
    (λ q. let w = and-true (was_elided m) (stands m (length d)) q in rw q (summed-byte m.ip m.udp d x (stands-facts m (length d) w.1).1 (h w.0)))
    (λ q. rw q refl)

-- the datagram d at the output's start, with what is computed in it there
hand-summed : (m : UdpSum) (n : ℕ) (d o : List ℕ) → length d ≡ n → n ≤ length o → summed_in m n (put 0 d o) ≡ put 0 (finish m d) o
hand-summed m n d o l h =
    ap (summed_in m n) (put_front d o (omega arith)) ∙ summed-front m n d (drop (length d) o) l
    ∙ ap (λ (k : ℕ). finish m d ++ drop k o) (sym (length-finish m d)) ∙ sym (put_front (finish m d) o (omega (arith, length-finish m d)))

-- ---- a whole datagram is handed out, or refused
pub handed-good : (m : UdpSum) (d : List ℕ) → holds m d ≡ true → handed m d ≡ out (finish m d)
unfolding handed
handed-good m d h = rw h refl

handed-bad : (m : UdpSum) (d : List ℕ) → holds m d ≡ false → handed m d ≡ refused 17
unfolding handed
handed-bad m d h = rw h refl

abbrev out_or : List ℕ → Reply (List ℕ) → List ℕ
out_or x kept = x
out_or x (out d) = d
out_or x (refused n) = x

abbrev is_out : Reply (List ℕ) → Bool
is_out kept = false
is_out (out d) = true
is_out (refused n) = false

pub handed_out : (m : UdpSum) (d x : List ℕ) → handed m d ≡ out x → (holds m d ≡ true) × (x ≡ finish m d)
handed_out m d x e = by-test (holds m d)
    (λ h. (h, sym (ap (out_or x) (sym (handed-good m d h) ∙ e))))
    (λ h. absurd (true≢false (sym (ap is_out (sym (handed-bad m d h) ∙ e)))))

-- as the code hands it out: the slot's bytes b, of which the first n are the datagram
pub hands-good : (m : UdpSum) (n : ℕ) (b o o₁ o₂ : List ℕ) (t : Bool) → t ≡ holds_in m n b → t ≡ true → n ≤ length b → n ≤ length o → o₁ ≡ put 0 (take n (drop 0 b)) o → o₂ ≡ summed_in m n o₁ → Hands (Ok (Outcome.Out n)) o o₂ (handed m (take n b))
unfolding holds_in
hands-good m n b o o₁ o₂ t p q h k e f =
    let d = take n b in
    let l : length d ≡ n = length-take-le n b h in
    let r : holds m d ≡ true = rw (le-leb n (length b) h) at (sym p ∙ q) in
    rw (handed-good m d r) record {
      answer = ap out (sym (length-finish m d ∙ l));
      output = f ∙ ap (summed_in m n) e ∙ hand-summed m n d o l k;
    }

pub hands-bad : (m : UdpSum) (n : ℕ) (b o : List ℕ) (t : Bool) → t ≡ holds_in m n b → t ≡ false → n ≤ length b → Hands (Err Refusal.BadChecksum) o o (handed m (take n b))
unfolding holds_in
hands-bad m n b o t p q h =
    let r : holds m (take n b) ≡ false = rw (le-leb n (length b) h) at (sym p ∙ q) in
    rw (handed-bad m (take n b) r) record { answer = refl; output = refl }

-- a part taken leaves its slot busy, under its key, opened when it was
pub taken-stays : (s : Slot) (p : Part) → ((taken s p).live ≡ s.live) × ((taken s p).key ≡ s.key) × ((taken s p).since ≡ s.since)
unfolding taken_in
taken-stays s p = (refl, refl, refl)

taken-size : (s : Slot) (p : Part) → (taken s p).key.size ≡ s.key.size
taken-size s p = ap (λ (k : Key). k.size) (taken-stays s p).1

module _ (s : Slot) (b : List ℕ) (p : Part) where
  pub place-full : full (taken s p) ≡ true
      → place s b p ≡ record { reply = handed (taken s p).sum (take (taken s p).key.size (written b p)); slot = free_slot; bytes = written b p; ended = 1; took = true }
  unfolding place
  place-full e = rw e

  pub place_kept : full (taken s p) ≡ false → place s b p ≡ record { reply = kept; slot = taken s p; bytes = written b p; ended = 0; took = true }
  unfolding place
  place_kept e = rw e

  pub offer-repeat : repeats s b p ≡ true → offer s b p ≡ record { reply = kept; slot = s; bytes = b; ended = 0; took = false }
  unfolding offer
  offer-repeat e = rw e

  pub offer-clash : repeats s b p ≡ false → touches s p ≡ true → offer s b p ≡ record { reply = refused 11; slot = free_slot; bytes = b; ended = 1; took = false }
  unfolding offer
  offer-clash e t = rw (e, t)

  pub offer-clear : repeats s b p ≡ false → touches s p ≡ false → offer s b p ≡ place s b p
  unfolding offer
  offer-clear e t = rw (e, t)

  pub does-full : (y : Answered) (t f : Slot) (b' o o' : List ℕ) → b' ≡ written b p → t ≡ taken s p → full t ≡ true → f ≡ free_slot
      → Hands y o o' (handed t.sum (take t.key.size b'))
      → Does (record { outcome = y; slot = f }) b' o o' (place s b p)
  does-full y t f b' o o' eb et ef q H =
      let e : handed t.sum (take t.key.size b') ≡ handed (taken s p).sum (take (taken s p).key.size (written b p)) = rw (et, eb) refl in
      rw (place-full (rw (← et) ef)) record {
        answer = H.answer ∙ ap told e;
        slot = q;
        bytes = eb;
        output = H.output ∙ ap (λ z. output_after z o) e;
      }

  pub does-kept : (t : Slot) (b' o : List ℕ) → b' ≡ written b p → t ≡ taken s p → full t ≡ false
      → Does (record { outcome = Ok Outcome.Kept; slot = t }) b' o o (place s b p)
  does-kept t b' o eb et ef = rw (place_kept (rw (← et) ef)) record { answer = refl; slot = et; bytes = eb; output = refl }

  pub does-repeat : (o : List ℕ) → repeats s b p ≡ true → Does (record { outcome = Ok Outcome.Kept; slot = s }) b o o (offer s b p)
  does-repeat o e = rw (offer-repeat e) record { answer = refl; slot = refl; bytes = refl; output = refl }

  pub does-clash : (f : Slot) (o : List ℕ) → repeats s b p ≡ false → touches s p ≡ true → f ≡ free_slot
      → Does (record { outcome = Err Refusal.Clash; slot = f }) b o o (offer s b p)
  does-clash f o e t q = rw (offer-clash e t) record { answer = refl; slot = q; bytes = refl; output = refl }

  pub does-place : (r : InSlot) (b' o o' : List ℕ) → repeats s b p ≡ false → touches s p ≡ false → Does r b' o o' (place s b p) → Does r b' o o' (offer s b p)
  does-place r b' o o' e t D = rw (offer-clear e t) D

-- ---- a slot keeps its 2,048 bytes

length-written : (b : List ℕ) (p : Part) → length (written b p) ≡ length b
length-written b p = length-put (p.unit * 8) p.bytes b

pub place-length : (s : Slot) (b : List ℕ) (p : Part) → length (place s b p).bytes ≡ length b
unfolding place
place-length s b p = by-test (full (taken s p)) (λ e. rw e (length-written b p)) (λ e. rw e (length-written b p))

pub offer-length : (s : Slot) (b : List ℕ) (p : Part) → length (offer s b p).bytes ≡ length b
unfolding offer
offer-length s b p = by-test (repeats s b p)
    (λ e. rw e)
    (λ e. by-test (touches s p) (λ c. rw (e, c)) (λ c. rw (e, c) (place-length s b p)))

-- full, by the test that finds no unit without its mark
pub full_is : (s : Slot) (j : ℕ) (r : Bool) → j ≡ units s.key.size → r ≡ has_in false (unpack s.covered) 0 (j - 0) → not r ≡ full s
unfolding full
full_is s j r e h = ap not (h ∙ ap (λ k. has_in false (unpack s.covered) 0 k) (sub-zero j ∙ e))
