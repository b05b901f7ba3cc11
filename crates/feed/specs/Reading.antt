-- A capture read on from a place, as far as whole blocks go.
use Rattle.std.specs.Prelude.{ℕ, zero, suc, ◌+◌, ◌/◌, Bool, true, false, List, [], ◌∷◌, ◌++◌, length, take, drop}
use Rattle.octets.specs.Read.{choose}
use Rattle.capture.specs.Block.{good_block}

-- the good blocks; the number that is due behind them; whether the block of that number is bad; and the bytes behind the good
-- blocks, none where the next one is bad
pub record Reading : Type 0 where
  pub blocks : List (List ℕ)
  pub due : ℕ
  pub bad : Bool
  pub rest : List ℕ

abbrev pub behind : List (List ℕ) → Reading → Reading
behind bs r = record { blocks = bs ++ r.blocks; due = r.due; bad = r.bad; rest = r.rest }

unfoldable pub read_blocks : ℕ → ℕ → List ℕ → Reading
read_blocks zero b s = record { blocks = []; due = b; bad = false; rest = s }
read_blocks (suc n) b s =
    choose (good_block b (take 512 s))
    (behind (take 512 s ∷ []) (read_blocks n (b + 1) (drop 512 s)))
    (record { blocks = []; due = b; bad = true; rest = [] })

-- from the block number b on: as many blocks as are whole
abbrev pub read_on : ℕ → List ℕ → Reading
read_on b s = read_blocks (length s / 512) b s
