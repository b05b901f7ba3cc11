-- How far a fragment header goes: its first word says it, and it ends within the bytes.
use Prim.Native.Nat.{ℕ, ◌+◌, ◌/◌, ◌%◌, ◌≤◌}
use mathlib.Core.List.{List}
use mathlib.Core.Path.{◌≡◌}
use lib.Dec.{eqb}
use lib.ListN.{length}
use Rattle.octets.specs.Read.{got, give, byte, be16, ◌>>=◌}
use Rattle.octets.proofs.Spans.{Spans, First, spans-first, spans-then, spans-branch, spans-guard, spans-map, spans-give, spans-byte, spans-be16, starts-then, starts-be16}
use Rattle.sixlowpan.specs.Frag.{frag, frag_rest, frag_width}
use Rattle.sixlowpan.specs.declared.frag.Repr.{Repr}
use Rattle.sixlowpan.specs.declared.frag.Repr.TheVariants.{Fragment}

spans-rest : (word tag : ℕ) → Spans (frag_rest word tag) (frag_width word)
unfolding frag_rest
spans-rest word tag =
    spans-branch (eqb (word / 2048) 0b11000) (give _) _ 0 1 (spans-give _)
    (spans-guard (eqb (word / 2048) 0b11100) _ 2 1 (spans-map byte (λ o. Fragment (word % 2048) tag (record { 0 = o })) 1 spans-byte))

-- the place after the header is past its first word by the tag's two bytes, and a byte of offset in a later part
pub frag-length : (s : List ℕ) (at n : ℕ) (h : Repr) → at ≤ length s → frag s at ≡ got h n → First be16 2 (λ w. 2 + frag_width w) s at n
unfolding frag
frag-length s at n h e r =
    spans-first be16 (λ w. ◌>>=◌ be16 (frag_rest w)) 2 (λ w. 2 + frag_width w) spans-be16
    (λ w. spans-then be16 (frag_rest w) 2 (frag_width w) spans-be16 (spans-rest w)) s at h n e r

-- wherever it was looked for
pub frag-within : (s : List ℕ) (at n : ℕ) (h : Repr) → frag s at ≡ got h n → n ≤ length s
unfolding frag
frag-within s at n h r = (frag-length s at n h (starts-then be16 (λ w. ◌>>=◌ be16 (frag_rest w)) starts-be16 s at h n r) r).within
