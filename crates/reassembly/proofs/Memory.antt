-- The lent memory, slot by slot: a slot's part of it, and the memory with that part replaced.
use Prim.Native.Nat.{ℕ, ◌+◌, ◌*◌, ◌-◌, ◌≤◌, ◌<◌}
use native.Mathlib.Omega.{arith}
use mathlib.Core.Path.{◌≡◌, refl, sym, ap, ◌∙◌}
use mathlib.Core.Logic.{◌≢◌}
use mathlib.Core.List.{List, ◌++◌}
use lib.ListN.{length, get_or, take, drop, length-drop}
use lib.Seq.{ext_get_or, get_or-take, get_or-drop, length-take-le}
use Rattle.expand.proofs.CopyLaws.{put-inside, length-put}
use borrow.Rule.Slice.PartMut.{put_mid, mid_of, Post-is}
use Rattle.reassembly.specs.Parts.{Put, Does}
use Rattle.reassembly.specs.Table.{chunk, splice, Lands}
use Rattle.reassembly.specs.declared.part.InSlot.{InSlot}
use Rattle.reassembly.proofs.Tests.{by_order}
use Rattle.reassembly.proofs.Lists.{put-sets, get_or-sets-before, get_or-sets-after, get_or-sets-in}

pub length-chunk : (i : ℕ) (m : List ℕ) → i * 2048 + 2048 ≤ length m → length (chunk i m) ≡ 2048
unfolding chunk
length-chunk i m h = length-take-le 2048 (drop (i * 2048) m) (omega (arith, length-drop (i * 2048) m))

pub length-splice : (m : List ℕ) (i : ℕ) (b : List ℕ) → length (splice m i b) ≡ length m
unfolding splice
length-splice m i b = length-put (i * 2048) b m

get_or-chunk : (i : ℕ) (m : List ℕ) (x : ℕ) → x < 2048 → get_or (chunk i m) x 0 ≡ get_or m (i * 2048 + x) 0
unfolding chunk
get_or-chunk i m x h = get_or-take 2048 (drop (i * 2048) m) x 0 h ∙ get_or-drop (i * 2048) m x 0

-- the slot's own part is what was put there
pub chunk-same : (m : List ℕ) (i : ℕ) (b : List ℕ) → i * 2048 + 2048 ≤ length m → length b ≡ 2048 → chunk i (splice m i b) ≡ b
chunk-same m i b h l =
    let lc : length (chunk i (splice m i b)) ≡ 2048 = length-chunk i (splice m i b) (omega (arith, length-splice m i b)) in
    ext_get_or 0 (chunk i (splice m i b)) b (lc ∙ sym l) (λ x hx.
    let small : x < 2048 = omega arith in
    let z : i * 2048 + x - i * 2048 ≡ x = omega arith in
    let e : get_or (splice m i b) (i * 2048 + x) 0 ≡ get_or b (i * 2048 + x - i * 2048) 0 =
    unfold splice in (rw (put-sets (i * 2048) b m (omega arith)) (get_or-sets-in b m (i * 2048) (i * 2048 + x) 0 (omega arith) (omega arith) (omega arith))) in
    get_or-chunk i (splice m i b) x small ∙ e ∙ rw z refl)

-- every other slot's part stays
pub chunk-other : (m : List ℕ) (i j : ℕ) (b : List ℕ) → i * 2048 + 2048 ≤ length m → j * 2048 + 2048 ≤ length m → length b ≡ 2048 → i ≢ j → chunk j (splice m i b) ≡ chunk j m
chunk-other m i j b k h l d =
    let l1 : length (chunk j (splice m i b)) ≡ 2048 = length-chunk j (splice m i b) (omega (arith, length-splice m i b)) in
    let l2 = length-chunk j m h in
    ext_get_or 0 (chunk j (splice m i b)) (chunk j m) (l1 ∙ sym l2) (λ x hx.
    let small : x < 2048 = omega arith in
    let e : get_or (splice m i b) (j * 2048 + x) 0 ≡ get_or m (j * 2048 + x) 0 = by_order i j
    (λ q. unfold splice in (rw (put-sets (i * 2048) b m (omega arith)) (get_or-sets-after b m (i * 2048) (j * 2048 + x) 0 (omega arith))))
    (λ q. unfold splice in (rw (put-sets (i * 2048) b m (omega arith)) (get_or-sets-before b m (i * 2048) (j * 2048 + x) 0 (omega arith)))) in
    get_or-chunk j (splice m i b) x small ∙ e ∙ sym (get_or-chunk j m x small))

-- ---- a slot's part that is lent on and comes back

put-splice : (m : List ℕ) (i : ℕ) (b : List ℕ) → i * 2048 + 2048 ≤ length m → length b ≡ 2048
    → put_mid (i * 2048) (i * 2048 + 2048 - i * 2048) m b ≡ splice m i b
unfolding splice
put-splice m i b h l =
    ap (λ (z : List ℕ). take (i * 2048) m ++ (b ++ z)) (Post-is (i * 2048) (i * 2048 + 2048) m (omega arith))
    ∙ ap (λ (z : ℕ). take (i * 2048) m ++ (b ++ drop (i * 2048 + z) m)) (sym l)
    ∙ sym (put-inside (i * 2048) b m (omega arith))

mid-chunk : (m : List ℕ) (i : ℕ) → mid_of (i * 2048) (i * 2048 + 2048 - i * 2048) m ≡ chunk i m
unfolding chunk
mid-chunk m i = let z : i * 2048 + 2048 - i * 2048 ≡ 2048 = omega arith in rw z refl

-- what a function on one slot does to the part that it is lent, it does to that slot's part of the memory
pub lands : (f : List ℕ → Put) → ((b : List ℕ) → length (f b).bytes ≡ length b) → (r : InSlot) (i : ℕ) (m b o₀ o : List ℕ) → i * 2048 + 2048 ≤ length m
    → Does r b o₀ o (f (mid_of (i * 2048) (i * 2048 + 2048 - i * 2048) m)) → Lands r i m (put_mid (i * 2048) (i * 2048 + 2048 - i * 2048) m b) o₀ o (f (chunk i m))
lands f same r i m b o₀ o h D =
    let E : Does r b o₀ o (f (chunk i m)) = rw (mid-chunk m i) at D in
    let l : length b ≡ 2048 = ap length E.bytes ∙ same (chunk i m) ∙ length-chunk i m h in
    record {
      answer = E.answer;
      slot = E.slot;
      memory = put-splice m i b h l ∙ ap (splice m i) E.bytes;
      output = E.output;
    }
