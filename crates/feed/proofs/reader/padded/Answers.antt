use mathlib.Core.Path.{refl}
use Rattle.feed.specs.Feed.{padded}
use Rattle.feed.proofs.Lists.{drop-zeros}
use Rattle.feed.proofs.reader.padded.Goals as goal

pub returns : goal.returns
unfolding padded
returns g c = rw (c.copy_from_slice.ensures.after, drop-zeros) refl
