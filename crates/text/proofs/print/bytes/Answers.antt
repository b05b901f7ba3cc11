use Rattle.std.proofs.Common.{◌+◌, sym, refl, ap, ◌∙◌, add-zero, arith, length-set, lt-length-set}
use Rattle.octets.specs.Write.{put}
use Rattle.text.specs.Text.{hex_bytes}
use Rattle.text.proofs.Printing.{printed-all, printed-none, bytes-step, bytes-done, length-hex}
use Rattle.text.proofs.print.bytes.Goals as goal

pub returns-then-out-at : goal.returns-then-out-at
returns-then-out-at c =
    let a = c.args in
    printed-none a.at (hex_bytes a.s.now) a.out.now (omega (arith, length-hex a.s.now))

pub returns-then-out-at-2 : goal.returns-then-out-at-2
returns-then-out-at-2 c =
    let a = c.args in
    printed-none a.at (hex_bytes a.s.now) a.out.now (omega (arith, length-hex a.s.now))

pub loop-i-init : goal.loop-i-init
loop-i-init c =
    let a = c.args in
    (refl, omega arith, omega arith, ap (λ k. put k (hex_bytes a.s.now) a.out.now) (add-zero a.at))

pub glyph-requires : goal.glyph-requires
glyph-requires c = omega (arith, c.shared_slice_known-in-loop-i-1.given c.loop-i.i)

pub glyph-requires-in-loop-i : goal.glyph-requires-in-loop-i
glyph-requires-in-loop-i c = omega (arith, c.shared_slice_known-in-loop-i-1.given c.loop-i.i)

pub bounds-out-k-in-loop-i : goal.bounds-out-k-in-loop-i
bounds-out-k-in-loop-i c = lt-length-set c.loop-i.out _ _ (omega arith)

pub loop-i-preserved : goal.loop-i-preserved
loop-i-preserved c =
    let a = c.args in
    let l = c.loop-i in (
      simp length-set l.invariant.0,
      omega arith,
      omega arith,
      bytes-step a.at l.i a.s.now l.out c.glyph.result c.glyph-in-loop-i.result (omega arith) c.glyph.ensures c.glyph-in-loop-i.ensures ∙ l.invariant.3,
    )

pub returns : goal.returns
returns c =
    let a = c.args in
    let l = c.loop-i in
    let e = length-hex a.s.now in
    printed-all a.at (hex_bytes a.s.now) a.out.now l.out _ (omega arith) (bytes-done a.at l.i a.s.now l.out (omega arith) ∙ l.invariant.3) (ap (λ k. a.at + k) (sym e))
