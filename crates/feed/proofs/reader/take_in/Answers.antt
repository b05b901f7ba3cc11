use Prim.Native.Nat.{◌+◌, ◌≤◌}
use mathlib.Core.Path.{◌≡◌, refl, ◌∙◌, ap}
use mathlib.Core.List.{◌++◌}
use native.Mathlib.Omega.{arith}
use lib.ListN.{length, take}
use lib.Seq.{length-take-le}
use Rattle.feed.specs.Reading.{read_on}
use Rattle.feed.specs.Feed.{answer_of, taken}
use Rattle.feed.proofs.Lists.{take_min, pool-is}
use Rattle.feed.proofs.reader.take_in.Goals as goal

pub returns : goal.returns
unfolding taken
returns c =
    let a = c.args in
    let h = a.reader.held in
    let k = c.min-len.result in
    let n : length h ≡ 512 = c.well_formed.0.1.1.0.1.0.1 in
    let l : k ≤ length h = omega (arith, c.min-len.ensures) in
    let e = c.copy_from_slice.ensures.after in
    let m : length c.copy_from_slice.new.self ≡ k = ap length e ∙ length-take-le k h l in
    c.sort.ensures
    ∙ ap (λ t. answer_of (read_on a.reader.block t))
    (pool-is c.copy_from_slice.new.self _ a.s.now c.copy_from_slice-2.new.self k (k + length a.s.now) m c.copy_from_slice-2.ensures.after refl
    ∙ ap (λ t. t ++ a.s.now) (e ∙ ap (λ j. take j h) c.min-len.ensures ∙ take_min a.reader.len 512 h n))
