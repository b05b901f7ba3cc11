-- Known bytes that grow twice.
use Rattle.std.proofs.Common.{ℕ, List, ◌++◌, append_assoc, ap, ◌∙◌}
use Rattle.std.specs.Prelude.{None, Some}
use Rattle.std.specs.declared.option.Option.{Option}
use Rattle.std.specs.Io.KnownBytes.{Appends}

pub appends-appends : (o a b : Option (List ℕ)) (x y : List ℕ) → Appends o a x → Appends a b y → Appends o b (x ++ y)
appends-appends None a b x y p q = tt
appends-appends (Some o) None b x y p q = absurd p
appends-appends (Some o) (Some a) None x y p q = absurd q
appends-appends (Some o) (Some a) (Some b) x y p q = q ∙ ap (λ z. z ++ y) p ∙ append_assoc o x y
