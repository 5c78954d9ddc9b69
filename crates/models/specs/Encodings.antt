-- Every model of at most 32 elements in bytes, and its "better" in pairs.
-- model_bytes, pair_bytes: the bytes. MeansBetter: an order is the model's "better". EncodedModel: bytes mean
-- a model with every such order. ModelsEncoded: they do, and the pairs are such an order.
-- Assumes nothing.
use Rattle.std.specs.Prelude.{◌≡◌, ℕ, zero, suc, ◌-◌, ◌*◌, ◌/◌, ◌%◌, ◌<◌, ◌≤◌, if◌then◌else◌, List, [], ◌∷◌, ◌==◌, nat_lt}
use Rattle.std.specs.List.{AllByRecursion}
use Rattle.logic.specs.Models.{Model}
use Rattle.logic.specs.Likeness.{Alike}
use Rattle.orders.specs.Masks.{has, mask_of, Preference}
use Rattle.orders.specs.PairLaws.{order_of_pairs, PairsLawful}
use Rattle.models.specs.Interpretations.{individuals_begin, bytes_of_interpretation, interpretation_of}
use Rattle.models.specs.Fields.{Valid}
use Rattle.models.specs.Meanings.{Compatible, model_of}
use Rattle.models.specs.Answers.{HasModelLength}

-- the first n values of f
unfoldable pub first_values : ℕ → (ℕ → ℕ) → List ℕ
first_values zero f = []
first_values (suc n) f = f zero ∷ first_values n (λ i. f (suc i))

-- byte j of a number, low byte first
abbrev pub byte_of : ℕ → ℕ → ℕ
byte_of w zero = w % 256
byte_of w (suc j) = byte_of (w / 256) j

-- the set of a name
abbrev pub name_mask : Model → ℕ → ℕ
name_mask m a = mask_of (m.atoms a) m.size

-- the set to which a role leads from an element; empty if there is no such element
abbrev pub successor_mask : Model → ℕ → ℕ → ℕ
successor_mask m r x = if nat_lt x m.size then mask_of (m.roles r x) m.size else 0

-- the set of the elements that are better than x
abbrev pub better_mask : Model → ℕ → ℕ
better_mask m x = mask_of (λ y. m.better y x) m.size

-- mask i of the bytes: first the 64 masks of the names, then 32 for each role
abbrev pub model_mask : Model → ℕ → ℕ
model_mask m i = if nat_lt i 64 then name_mask m i else successor_mask m ((i - 64) / 32) ((i - 64) % 32)

-- byte k: the size, a byte of a mask, or the element of an individual
abbrev pub model_byte : Model → ℕ → ℕ
model_byte m k =
    if k == 0 then m.size else
    if nat_lt k individuals_begin then byte_of (model_mask m ((k - 1) / 4)) ((k - 1) % 4) else
    m.individual (k - individuals_begin)

-- the model as an interpretation
abbrev pub model_bytes : Model → List ℕ
model_bytes m = first_values bytes_of_interpretation (model_byte m)

-- its "better" as pairs
abbrev pub pair_bytes : Model → List ℕ
pair_bytes m = first_values (4 * m.size) (λ k. byte_of (better_mask m (k / 4)) (k % 4))

-- the order has the model's elements, and its "better"
pub record MeansBetter (m : Model) (o : Preference) : Type 0 where
  pub size : o.size ≡ m.size
  pub better : (x y : ℕ) → x < m.size → y < m.size → has (o.better x) y ≡ m.better y x

-- valid bytes, which mean the model with every order that is its "better"
pub record EncodedModel (m : Model) (bs : List ℕ) : Type 0 where
  pub bytes : AllByRecursion (λ b. b < 256) bs
  pub whole : HasModelLength bs
  pub valid : Valid (interpretation_of bs)
  pub size : (interpretation_of bs).size ≡ m.size
  pub means : (o : Preference) (f : Compatible (interpretation_of bs) o) → MeansBetter m o → Alike m (model_of (interpretation_of bs) o f)

-- pairs that encode a strict order, the model's "better"
pub record EncodedOrder (m : Model) (ps : List ℕ) : Type 0 where
  pub bytes : AllByRecursion (λ b. b < 256) ps
  pub lawful : PairsLawful ps
  pub means : MeansBetter m (order_of_pairs ps)

-- every model of at most 32 elements has bytes and pairs that mean it
abbrev pub ModelsEncoded : Type 0
ModelsEncoded = (m : Model) → m.size ≤ 32 → EncodedModel m (model_bytes m) × EncodedOrder m (pair_bytes m)
