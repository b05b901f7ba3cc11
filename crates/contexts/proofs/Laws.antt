-- A slice that is laid flat, context after context, is the flat bytes that it means.
use Prim.Native.Nat.{ℕ, zero, suc, ◌+◌, ◌-◌, ◌*◌, ◌≤◌, ◌<◌, min}
use native.Mathlib.Nat.{not-suc-le-zero, le_of_suc-le-suc, sub-zero}
use native.Mathlib.Omega.{arith}
use mathlib.Core.Path.{◌≡◌, refl, sym, ap, ◌∙◌}
use mathlib.Core.List.{List, [], ◌∷◌, ◌++◌, append_assoc, append-nil}
use lib.ListN.{length, get_or, take, drop, length-append, length-replicate}
use lib.Seq.{take_at, take_all, length-take-le}
use borrow.Author.Tests.{lt-ltb, le-ltb, le-leb}
use Rattle.octets.specs.Write.{put}
use Rattle.iphc.specs.Context.{context_at}
use Rattle.iphc.specs.declared.context.AddressContext.{AddressContext}
use Rattle.iphc.proofs.Contexts.{context-front}
use Rattle.expand.proofs.CopyLaws.{put-inside, length-put}
use Rattle.reassembly.proofs.Tests.{by_order}
use Rattle.contexts.specs.declared.Flat.{Flat}
use Rattle.contexts.specs.Slice.{eight, flat, listed, empty, appended, none, with_at, laid_to, bytes_of}

-- ---- one context
eight_is : (c : List ℕ) → length c ≡ 8 → c ≡ eight c
unfolding eight
eight_is [] e = absurd (omega (arith, e))
eight_is (a ∷ []) e = absurd (omega (arith, e))
eight_is (a ∷ b ∷ []) e = absurd (omega (arith, e))
eight_is (a ∷ b ∷ c ∷ []) e = absurd (omega (arith, e))
eight_is (a ∷ b ∷ c ∷ d ∷ []) e = absurd (omega (arith, e))
eight_is (a ∷ b ∷ c ∷ d ∷ f ∷ []) e = absurd (omega (arith, e))
eight_is (a ∷ b ∷ c ∷ d ∷ f ∷ g ∷ []) e = absurd (omega (arith, e))
eight_is (a ∷ b ∷ c ∷ d ∷ f ∷ g ∷ h ∷ []) e = absurd (omega (arith, e))
eight_is (a ∷ b ∷ c ∷ d ∷ f ∷ g ∷ h ∷ i ∷ []) e = refl
eight_is (a ∷ b ∷ c ∷ d ∷ f ∷ g ∷ h ∷ i ∷ j ∷ l) e = absurd (omega (arith, e))

pub length-eight : (c : List ℕ) → length (eight c) ≡ 8
unfolding eight
length-eight c = refl

-- a context's bytes, put behind those laid so far
pub append_put : (f : Flat) (c b : List ℕ) → length c ≡ 8 → f.len ≤ 120 → b ≡ put f.len (take 8 (drop 0 c)) f.bytes → record { bytes = b; len = f.len + 8 } ≡ appended c f
unfolding appended
append_put f c b e h p = rw (le-leb f.len 120 h) (ap (λ z. record { bytes = z; len = f.len + 8 }) (p ∙ ap (λ z. put f.len z f.bytes) (take_all 8 c (omega (arith, e)) ∙ eight_is c e)))

-- ---- context after context
flat-more : (cs : List AddressContext) (k : ℕ) → k < length cs → flat (take (suc k) cs) ≡ flat (take k cs) ++ eight (get_or cs k none).0
unfolding flat
flat-more [] k h = absurd (not-suc-le-zero h)
flat-more (c ∷ cs) zero h = append-nil (eight c.0)
flat-more (c ∷ cs) (suc k) h = ap (λ z. eight c.0 ++ z) (flat-more cs k (le_of_suc-le-suc h)) ∙ sym (append_assoc (eight c.0) (flat (take k cs)) (eight (get_or cs k none).0))

more : (f : Flat) (c : List ℕ) → length f.bytes ≡ 128 → f.len ≤ 120 → take (f.len + 8) (put f.len (eight c) f.bytes) ≡ take f.len f.bytes ++ eight c
more f c r h =
    let n : f.len + length (eight c) ≤ length f.bytes = omega (arith, r, h, length-eight c) in
    let k : length (take f.len f.bytes ++ eight c) ≡ f.len + 8 = length-append (take f.len f.bytes) (eight c) ∙ omega (arith, length-eight c, length-take-le f.len f.bytes (omega (arith, r, h))) in
    ap (take (f.len + 8)) (put-inside f.len (eight c) f.bytes n ∙ sym (append_assoc (take f.len f.bytes) (eight c) (drop (f.len + length (eight c)) f.bytes)))
    ∙ take_at (take f.len f.bytes ++ eight c) (drop (f.len + length (eight c)) f.bytes) (f.len + 8) k

record Laid (cs : List AddressContext) (k : ℕ) (f : Flat) : Type 0 where
  room : length f.bytes ≡ 128
  size : f.len ≡ 8 * min k (length cs)
  are : take f.len f.bytes ≡ flat (take k cs)

laid-past : (cs : List AddressContext) (k : ℕ) (f : Flat) → length cs ≤ k → Laid cs k f → Laid cs (suc k) (with_at cs k f)
unfolding with_at appended
laid-past cs k f w l =
    rw (le-ltb k (length cs) w)
    (record {
      room = l.room;
      size = omega (arith, l.size, w);
      are = l.are ∙ ap flat (take_all k cs w ∙ sym (take_all (suc k) cs (omega (arith, w))));
    })

laid-within : (cs : List AddressContext) (k : ℕ) (f : Flat) → k < 16 → k < length cs → Laid cs k f → Laid cs (suc k) (with_at cs k f)
unfolding with_at appended
laid-within cs k f h w l =
    let z : f.len ≤ 120 = omega (arith, l.size, h, w) in
    rw (lt-ltb k (length cs) w, le-leb f.len 120 z)
    (record {
      room = length-put f.len (eight (get_or cs k none).0) f.bytes ∙ l.room;
      size = omega (arith, l.size, h, w);
      are = more f (get_or cs k none).0 l.room z ∙ ap (λ x. x ++ eight (get_or cs k none).0) l.are ∙ sym (flat-more cs k w);
    })

laid : (cs : List AddressContext) (k : ℕ) → k ≤ 16 → Laid cs k (laid_to cs k)
unfolding laid_to empty flat
laid cs zero h = record { room = length-replicate {A = ℕ} 128 0; size = omega arith; are = refl }
laid cs (suc k) h = by_order (suc k) (length cs) (λ w. laid-within cs k (laid_to cs k) (omega (arith, h)) w (laid cs k (omega (arith, h)))) (λ w. laid-past cs k (laid_to cs k) (omega (arith, w)) (laid cs k (omega (arith, h))))

pub laid-listed : (cs : List AddressContext) → bytes_of (laid_to cs 16) ≡ listed cs
unfolding bytes_of listed
laid-listed cs = (laid cs 16 (omega arith)).are

pub bytes_of_min : (f : Flat) (n : ℕ) → length f.bytes ≡ 128 → n ≡ min f.len 128 → take (n - 0) f.bytes ≡ bytes_of f
unfolding bytes_of
bytes_of_min f n r e =
    ap (λ z. take z f.bytes) (sub-zero n)
    ∙ by_order f.len 128 (λ h. let q : n ≡ f.len = omega (arith, e, h) in ap (λ z. take z f.bytes) q)
    (λ h. take_all n f.bytes (omega (arith, r, e, h)) ∙ sym (take_all f.len f.bytes (omega (arith, r, h))))

-- ---- sixteen are enough: an identifier below 16 means the same context in the whole slice
flat-apart : (k : ℕ) (cs : List AddressContext) → flat (take k cs) ++ flat (drop k cs) ≡ flat cs
unfolding flat
flat-apart zero cs = refl
flat-apart (suc k) [] = refl
flat-apart (suc k) (c ∷ cs) = append_assoc (eight c.0) (flat (take k cs)) (flat (drop k cs)) ∙ ap (λ z. eight c.0 ++ z) (flat-apart k cs)

length-flat : (cs : List AddressContext) → length (flat cs) ≡ 8 * length cs
unfolding flat
length-flat [] = refl
length-flat (c ∷ cs) = length-append (eight c.0) (flat cs) ∙ omega (arith, length-eight c.0, length-flat cs)

pub sixteen : (cs : List AddressContext) (id : ℕ) → id < 16 → context_at (listed cs) id ≡ context_at (flat cs) id
unfolding listed
sixteen cs id h =
    by_order (length cs) 16 (λ w. ap (λ z. context_at (flat z) id) (take_all 16 cs w))
    (λ w. let n : id * 8 + 8 ≤ length (flat (take 16 cs)) = omega (arith, h, length-flat (take 16 cs), length-take-le 16 cs (omega (arith, w))) in
    sym (context-front (flat (take 16 cs)) (flat (drop 16 cs)) id n) ∙ ap (λ z. context_at z id) (flat-apart 16 cs))

pub ruleset slice_laws = (laid-listed)
