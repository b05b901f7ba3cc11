use mathlib.Core.Path.{ap, ◌∙◌}
use mathlib.Core.List.{[], ◌∷◌}
use Rattle.octets.specs.Write.{put}
use Rattle.octets.proofs.Puts.{stored-put}
use Rattle.words.specs.Words.{head_words}
use Rattle.words.proofs.write.put_head.Goals as goal

pub returns : goal.returns
unfolding head_words
returns c = let s = c.args.s in
    stored-put c.args.k (s.key.dst.kind ∷ s.key.dst.number ∷ c.pack.result ∷ s.since ∷ []) c.args.t.now
    ∙ ap (λ w. put c.args.k (s.key.dst.kind ∷ s.key.dst.number ∷ w ∷ s.since ∷ []) c.args.t.now) c.pack.ensures
