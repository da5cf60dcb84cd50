-- The middle one of some figures.
use Rattle.std.specs.Prelude.{◌≡◌, ℕ, ◌/◌, List, length, slice_index, IsPermutation}
use Rattle.std.specs.List.Sorted.{IsNonDecreasing}

-- once the figures are in order, this one is in the middle
pub record IsMedian (figures : List ℕ) (middle : ℕ) : Type 0 where
  pub ordered : List ℕ
  pub same : IsPermutation figures ordered
  pub rising : IsNonDecreasing ordered
  pub at_middle : middle ≡ slice_index ordered (length figures / 2)
