use Prim.Native.Nat.{◌<◌}
use native.Mathlib.Omega.{arith}
use mathlib.Core.Path.{sym, ◌∙◌}
use Rattle.reassembly.specs.Parts.{with_bytes}
use Rattle.reassembly.proofs.Answers.{ready, enough-memory}
use Rattle.reassembly.proofs.AtSlot.{at_7, at-10, at-12, finds-key, at_slot}
use Rattle.reassembly.proofs.table.take_at.Goals as goal

pub returns-then-is_short : goal.returns-then-is_short
returns-then-is_short c =
    let a = c.args in
    at_7 a.to.slot a.to.index a.to.time (with_bytes a.part a.bytes.now) a.mem.now a.out.now (sym c.is_short.ensures ∙ c.if-is_short.true) _ c.stays.ensures

pub returns-then-not-fits : goal.returns-then-not-fits
returns-then-not-fits c =
    let a = c.args in
    at-10 a.to.slot a.to.index a.to.time (with_bytes a.part a.bytes.now) a.mem.now a.out.now (sym c.is_short.ensures ∙ c.if-is_short.false) (sym c.fits.ensures ∙ c.if-not-fits.true) _ c.stays-then-not-fits.ensures

pub returns-then-to-ge-SLOTS : goal.returns-then-to-ge-SLOTS
returns-then-to-ge-SLOTS c =
    let a = c.args in
    at-12 a.to.slot a.to.index a.to.time (with_bytes a.part a.bytes.now) a.mem.now a.out.now (sym c.is_short.ensures ∙ c.if-is_short.false) (sym c.fits.ensures ∙ c.if-not-fits.false) c.if-to-ge-SLOTS.true _ c.stays-then-to-ge-SLOTS.ensures

pub offer_at-requires : goal.offer_at-requires
offer_at-requires c =
    let a = c.args in
    let enough = sym c.is_short.ensures ∙ c.if-is_short.false in
    let good = sym c.fits.ensures ∙ c.if-not-fits.false in
    let h : a.to.index < 8 = omega (arith, c.if-to-ge-SLOTS.false) in
    record { i_bound = (h, enough-memory a.mem.now a.out.now enough); placeable = rw (finds-key a.to.slot a.to.index a.to.time (with_bytes a.part a.bytes.now) a.mem.now a.out.now enough good h _ c.slot_for-z.ensures) (ready a.part.key a.part.offset.0 a.bytes.now a.mem.now a.out.now a.to.index good enough h) }

pub returns : goal.returns
returns c =
    let a = c.args in
    let h : a.to.index < 8 = omega (arith, c.if-to-ge-SLOTS.false) in
    at_slot a.to.slot a.to.index a.to.time (with_bytes a.part a.bytes.now) a.mem.now a.out.now (sym c.is_short.ensures ∙ c.if-is_short.false) (sym c.fits.ensures ∙ c.if-not-fits.false) h _ c.slot_for-z.ensures _ _ _ c.offer_at.ensures
