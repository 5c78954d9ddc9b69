-- Interpretations of at most 32 elements, and their 2,337 bytes.
-- Interpretation: the sets of the names, the roles, the elements of the individuals. name_place, role_place,
-- individual_place: the offset of a field. interpretation_of: what bytes mean.
-- Assumes nothing.
use Rattle.std.specs.Prelude.{ℕ, ◌+◌, ◌*◌, ◌&&◌, if◌then◌else◌, List, nat_lt}
use Rattle.logic.specs.Bytes.{byte, u32_at}
use Rattle.logic.specs.Bounds.{name_limit, role_limit, individual_limit}
use Rattle.orders.specs.Masks.{element_limit}

-- The elements are the numbers below size. names a is the set of concept name a, successors r x the set of
-- the elements to which role r leads from element x, individual a the element of individual a.
pub record Interpretation : Type 0 where
  pub size : ℕ
  pub names : ℕ → ℕ
  pub successors : ℕ → ℕ → ℕ
  pub individual : ℕ → ℕ

-- Byte 0 is the size. From byte 1 on there is a mask of 4 bytes for each of 64 names, from byte 257 on
-- one for each of 16 roles and 32 elements, and from byte 2,305 on a byte for each of 32 individuals.
abbrev pub name_place : ℕ → ℕ
name_place a = 1 + 4 * a

abbrev pub role_place : ℕ → ℕ → ℕ
role_place r x = 257 + 4 * (32 * r + x)

abbrev pub individuals_begin : ℕ
individuals_begin = 2305

abbrev pub individual_place : ℕ → ℕ
individual_place a = individuals_begin + a

-- the length of an interpretation, in bytes
abbrev pub bytes_of_interpretation : ℕ
bytes_of_interpretation = 2337

-- Past the limits the set is empty, and the element is 0.
abbrev pub interpretation_of : List ℕ → Interpretation
interpretation_of bs =
    record {
      size = byte bs 0;
      names = λ a. if nat_lt a name_limit then u32_at bs (name_place a) else 0;
      successors = λ r x. if nat_lt r role_limit && nat_lt x element_limit then u32_at bs (role_place r x) else 0;
      individual = λ a. if nat_lt a individual_limit then byte bs (individual_place a) else 0;
    }
