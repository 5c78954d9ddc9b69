-- The sample model in bytes.
-- sample_bytes: two elements, the sets of names 0, 1 and 2, no roles, every individual is element 0.
-- Assumes nothing.
use Rattle.std.specs.Prelude.{ℕ, List, replicate, slice_set}
use Rattle.models.specs.Interpretations.{bytes_of_interpretation}

-- names 0, 1 and 2 (release, yanked, paired) have the sets 3, 1 and 2, from bytes 1, 5 and 9 on
unfoldable pub sample_bytes : List ℕ
sample_bytes = slice_set (slice_set (slice_set (slice_set (replicate bytes_of_interpretation 0) 0 2) 1 3) 5 1) 9 2
