-- How much room lines take.
use Rattle.std.proofs.Common.{◌≡◌, ℕ, zero, suc, ◌+◌, ◌*◌, ◌/◌, ◌≤◌, Bool, true, false, List, [], ◌∷◌, ◌++◌, length, drop, sym, refl, ap, ◌∙◌, append_assoc, arith, length-append}
use Rattle.octets.specs.Read.{choose}
use Rattle.capture.specs.Block.{Timed, frames_of, good_block}
use Rattle.capture.proofs.BlockSteps.{count_small}
use Rattle.capture.proofs.Exact.{frames-length}
use Rattle.reassembly.specs.Parts.{Reply, kept, out, refused, told}
use Rattle.listen.specs.Lines.{decimal, out_word, kept_word, no_word, newline, frame_line, bad_line}
use Rattle.capture.specs.File.{pieces, blocks_of, joined}
use Rattle.listen.specs.Heard.{Listener, Listened, next, frame_result, after_frame, said_of, said_of_all, hear_block, then_heard, hear_blocks, hear_all}
use Rattle.listen.proofs.Decimals.{decimal-small}

-- ---- a line takes 46 bytes at most, the lines of a block 138
frame_small : (n : ℕ) (r : Reply ℕ) → length (frame_line n r) ≤ 46
frame_small n kept = omega (arith, decimal-small n, length-append (decimal n) (kept_word ++ newline))
frame_small n (out l) =
    omega (arith, decimal-small n, decimal-small l, length-append (decimal n) (out_word ++ (decimal l ++ newline)), length-append (decimal l) newline)
frame_small n (refused r) =
    omega (arith, decimal-small n, decimal-small r, length-append (decimal n) (no_word ++ (decimal r ++ newline)), length-append (decimal r) newline)

bad-small : (b : ℕ) → length (bad_line b) ≤ 51
bad-small b =
    omega (arith, decimal-small b, decimal-small 15, length-append (decimal b) (no_word ++ (decimal 15 ++ newline)), length-append (decimal 15) newline)

said-small : (x : Listener) (fs : List Timed) → length (joined (said_of_all x fs)) ≤ 46 * length fs
unfolding joined said_of_all said_of
said-small x [] = omega arith
said-small x (f ∷ fs) =
    omega (arith, length-append (said_of x f) (joined (said_of_all (after_frame x f) fs)), frame_small (next x.ear.frames) (told (frame_result x f).reply), said-small (after_frame x f) fs)

block-go : (t : Bool) (x : Listener) (s : List ℕ) (a b : Listener) (u v : Bool) → length (joined (choose {A = Listened} t (record { after = a; said = said_of_all x (frames_of s); more = u }) (record { after = b; said = bad_line x.ear.block ∷ []; more = v })).said) ≤ 138
unfolding joined
block-go true x s a b u v = omega (arith, said-small x (frames_of s), frames-length s, count_small s)
block-go false x s a b u v = omega (arith, bad-small x.ear.block, length-append (bad_line x.ear.block) [])

block-small : (x : Listener) (s : List ℕ) → length (joined (hear_block x s).said) ≤ 138
unfolding hear_block
block-small x s = block-go (good_block x.ear.block s) x s _ _ _ _

joined-append : (us vs : List (List ℕ)) → joined (us ++ vs) ≡ joined us ++ joined vs
unfolding joined
joined-append [] vs = refl
joined-append (u ∷ us) vs = ap (λ l. u ++ l) (joined-append us vs) ∙ sym (append_assoc u (joined us) (joined vs))

then-go : (t : Bool) (x y : Listener) (us vs : List (List ℕ)) (w : Bool) (j k : ℕ) → length (joined us) ≤ j → length (joined vs) ≤ k → length (joined (then_heard (record { after = x; said = us; more = t }) (record { after = y; said = vs; more = w })).said) ≤ j + k
then-go true x y us vs w j k h i = omega (arith, ap length (joined-append us vs), length-append (joined us) (joined vs))
then-go false x y us vs w j k h i = omega arith

blocks-small : (x : Listener) (ss : List (List ℕ)) → length (joined (hear_blocks x ss).said) ≤ 138 * length ss
unfolding hear_blocks joined
blocks-small x [] = omega arith
blocks-small x (s ∷ ss) =
    let q = hear_block x s in
    let d = hear_blocks q.after ss in
    let h = then-go q.more q.after d.after q.said d.said d.more 138 (138 * length ss) (block-small x s) (blocks-small q.after ss) in
    omega (arith, h)

pieces-count : (n : ℕ) (s : List ℕ) → length (pieces n s) ≡ n
unfolding pieces
pieces-count zero s = refl
pieces-count (suc n) s = ap suc (pieces-count n (drop 512 s))

-- the lines of 64 KiB of a capture fit 64 KiB of text, and the last line of 25 bytes too
pub text-enough : (x : Listener) (s : List ℕ) → length s ≤ 65536 → length (joined (hear_all x s).said) + 25 ≤ 65536
text-enough x s h = omega (arith, blocks-small x (blocks_of s), pieces-count ((length s + 511) / 512) s)
