-- Lists: how many elements pass a test, which is the first, which they are; equal lists.
use Rattle.std.specs.Prelude.{ℕ, suc, ◌+◌, Bool, true, false, ◌&&◌, List, [], ◌∷◌, eqb}
use Rattle.octets.specs.Read.{choose}

abbrev pub bit : Bool → ℕ
bit true = 1
bit false = 0

unfoldable pub count : {A : Type 0} → (A → Bool) → List A → ℕ
count f [] = 0
count f (x ∷ xs) = bit (f x) + count f xs

-- the place of the first that passes, or the length where none does
unfoldable pub first_at : {A : Type 0} → (A → Bool) → List A → ℕ
first_at f [] = 0
first_at f (x ∷ xs) = choose (f x) 0 (suc (first_at f xs))

-- those that pass
unfoldable pub those : {A : Type 0} → (A → Bool) → List A → List A
those f [] = []
those f (x ∷ xs) = choose (f x) (x ∷ those f xs) (those f xs)

unfoldable pub same_list : List ℕ → List ℕ → Bool
same_list [] [] = true
same_list [] (y ∷ ys) = false
same_list (x ∷ xs) [] = false
same_list (x ∷ xs) (y ∷ ys) = eqb x y && same_list xs ys
