use Rattle.std.proofs.Common.{◌≡◌, ◌+◌, ◌-◌, ◌≤◌, List, ℕ, ◌++◌, take, drop, set, refl, ap, ◌∙◌, arith}
use Rattle.std.proofs.lemmas.Grind.{common_steps}
use borrow.Rule.Slice.PartMut.{put_mid, post_of}
use Rattle.text.specs.Bytes.{index_of}
use Rattle.text.proofs.Splitting.{stays, stays_set, still_scanned, grown}
use Rattle.text.proofs.input.Input.fill.Goals as goal

pub invariant_of-self : goal.invariant_of-self
unfolding index_of
invariant_of-self g c = (omega arith, omega arith, omega arith, refl)

pub invariant_of-self-then-more-gt0 : goal.invariant_of-self-then-more-gt0
invariant_of-self-then-more-gt0 g c =
    let i = c.self.inside in
    let p : List ℕ = post_of 0 i.have i.room in
    let z : List ℕ = put_mid (i.have - i.start) (65536 - (i.have - i.start)) (c.shift.new.s ++ p) c.read.new.buf in (
      omega arith,
      omega arith,
      grind (arith, common_steps),
      still_scanned i.room c.shift.new.s p i.start i.from i.have c.self.told (omega arith) (omega arith) (omega arith) c.self.invariant.3 c.shift.ensures z
          (stays i.room c.shift.new.s p i.start i.from i.have c.self.told (omega arith) (omega arith) (omega arith) c.self.invariant.3 c.shift.ensures _ _),
    )

pub returns-then-more-gt0 : goal.returns-then-more-gt0
returns-then-more-gt0 g c =
    let i = c.self.inside in
    let p : List ℕ = post_of 0 i.have i.room in
    let z : List ℕ = put_mid (i.have - i.start) (65536 - (i.have - i.start)) (c.shift.new.s ++ p) c.read.new.buf in
    let m : ℕ = i.have - i.start + c.unwrap_or-more.result in (
      drop (i.have - i.start) (take m z),
      grown i.room c.shift.new.s p i.start i.from i.have c.self.told (omega arith) (omega arith) (omega arith) c.self.invariant.3 c.shift.ensures z m (omega arith)
          (stays i.room c.shift.new.s p i.start i.from i.have c.self.told (omega arith) (omega arith) (omega arith) c.self.invariant.3 c.shift.ensures _ _)
          ∙ ap (λ u. u ++ drop (i.have - i.start) (take m z)) c.self.view_is,
    )

pub invariant_of-self-2 : goal.invariant_of-self-2
invariant_of-self-2 g c =
    let i = c.self.inside in
    let p : List ℕ = post_of 0 i.have i.room in
    let y : List ℕ = put_mid (i.have - i.start) (65536 - (i.have - i.start)) (c.shift.new.s ++ p) c.read.new.buf in
    let z : List ℕ = set y (i.have - i.start) 10 in (
      omega arith,
      omega arith,
      omega arith,
      still_scanned i.room c.shift.new.s p i.start i.from i.have c.self.told (omega arith) (omega arith) (omega arith) c.self.invariant.3 c.shift.ensures z
          (stays_set i.room c.shift.new.s p i.start i.from i.have c.self.told (omega arith) (omega arith) (omega arith) c.self.invariant.3 c.shift.ensures y
          (stays i.room c.shift.new.s p i.start i.from i.have c.self.told (omega arith) (omega arith) (omega arith) c.self.invariant.3 c.shift.ensures _ _)),
    )

pub returns : goal.returns
returns g c =
    let i = c.self.inside in
    let p : List ℕ = post_of 0 i.have i.room in
    let y : List ℕ = put_mid (i.have - i.start) (65536 - (i.have - i.start)) (c.shift.new.s ++ p) c.read.new.buf in
    let z : List ℕ = set y (i.have - i.start) 10 in
    let m : ℕ = i.have - i.start + 1 in (
      drop (i.have - i.start) (take m z),
      grown i.room c.shift.new.s p i.start i.from i.have c.self.told (omega arith) (omega arith) (omega arith) c.self.invariant.3 c.shift.ensures z m (omega arith)
          (stays_set i.room c.shift.new.s p i.start i.from i.have c.self.told (omega arith) (omega arith) (omega arith) c.self.invariant.3 c.shift.ensures y
          (stays i.room c.shift.new.s p i.start i.from i.have c.self.told (omega arith) (omega arith) (omega arith) c.self.invariant.3 c.shift.ensures _ _))
          ∙ ap (λ u. u ++ drop (i.have - i.start) (take m z)) c.self.view_is,
    )
