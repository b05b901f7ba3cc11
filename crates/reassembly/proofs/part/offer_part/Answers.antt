use mathlib.Core.Path.{sym, ◌∙◌}
use Rattle.reassembly.specs.Parts.{with_bytes}
use Rattle.reassembly.proofs.Parts.{does-repeat, does-clash, does-place}
use Rattle.reassembly.proofs.part.offer_part.Goals as goal

pub returns-then-is_repeat : goal.returns-then-is_repeat
returns-then-is_repeat c =
    let a = c.args in
    does-repeat a.s a.room.now (with_bytes a.part a.bytes.now) a.out.now (sym c.is_repeat.ensures ∙ c.if-is_repeat.true)

pub returns-then-is_touching : goal.returns-then-is_touching
returns-then-is_touching c =
    let a = c.args in
    does-clash a.s a.room.now (with_bytes a.part a.bytes.now) c.free.result a.out.now (sym c.is_repeat.ensures ∙ c.if-is_repeat.false) (sym c.is_touching.ensures ∙ c.if-is_touching.true) c.free.ensures

pub returns : goal.returns
returns c =
    let a = c.args in
    does-place a.s a.room.now (with_bytes a.part a.bytes.now) _ _ a.out.now _ (sym c.is_repeat.ensures ∙ c.if-is_repeat.false) (sym c.is_touching.ensures ∙ c.if-is_touching.false) c.place_part.ensures
