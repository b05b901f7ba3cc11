use native.Mathlib.Nat.{sub-zero, min-le_right}
use Prim.Native.Nat.{ℕ, ◌-◌, ◌≤◌}
use native.Mathlib.Omega.{arith}
use mathlib.Core.Path.{refl, ap, ◌∙◌}
use lib.ListN.{length, length-take, replicate, length-replicate}
use Rattle.std.specs.Prelude.{Ok, Err}
use Rattle.std.proofs.lemmas.Result.{err_from_is_err_and}
use Rattle.receiver.proofs.Steps.{frame-whole, frame_refused, frame-part, whole-within, part-within}
use Rattle.receiver.proofs.Turns.{answers, refuses}
use Rattle.receiver.proofs.receive_timed.Goals as goal

big : 455 ≤ length (replicate {A = ℕ} 456 0)
big = omega (arith, length-replicate {A = ℕ} 456 0)

pub slice_bounds-hand_over-end : goal.slice_bounds-hand_over-end
slice_bounds-hand_over-end c = whole-within _ _ _ _ _ c.read.ensures _ _ (c.in_ok-len.was ∙ ap Ok c.in-Whole.is)

pub hand_over-requires : goal.hand_over-requires
hand_over-requires c = let n = c.in-Whole.len in let l = c.read.new.scratch in omega (arith, length-take (n - 0) l, min-le_right (n - 0) (length l))

pub part_bytes-bytes-requires : goal.part_bytes-bytes-requires
part_bytes-bytes-requires c = part-within _ _ _ _ _ c.read.ensures _ _ _ _ _ (c.in_ok-len.was ∙ ap Ok c.in-Part.is)

pub returns-in-Whole : goal.returns-in-Whole
returns-in-Whole c = answers _ _ _ _ _ _ _ (frame-whole _ _ _ _ c.admit.ensures _ c.in_ok-a.was _ _ _ big c.read.ensures _ _ _ (c.in_ok-len.was ∙ ap Ok c.in-Whole.is)) _ _ (rw (sub-zero c.in-Whole.len) at c.hand_over.ensures)

pub returns-in-Part : goal.returns-in-Part
returns-in-Part c = c.take.ensures _ _ (frame-part _ _ _ _ c.admit.ensures _ c.in_ok-a.was _ _ _ big c.read.ensures _ _ _ _ c.key_of-key.ensures _ _ _ (c.in_ok-len.was ∙ ap Ok c.in-Part.is) _ c.part_bytes-bytes.ensures)

pub returns-in_err-len : goal.returns-in_err-len
returns-in_err-len c = let p = err_from_is_err_and c.from_residual-in_err-len.result c.from_residual-in_err-len.ensures.1 in
    rw (p.1, p.2)
    (answers _ _ _ _ _ _ _ (frame_refused _ _ _ _ c.admit.ensures _ c.in_ok-a.was _ _ _ big c.read.ensures _ _ c.in_err-len.was) (Err _) _ (record { answer = refl; output = refl }))

pub returns-in_err-a : goal.returns-in_err-a
returns-in_err-a c = let p = err_from_is_err_and c.from_residual.result c.from_residual.ensures.1 in
    rw (p.1, p.2) (refuses _ _ _ _ _ _ _ c.admit.ensures _ c.in_err-a.was)
