use Rattle.std.proofs.Common.{rules, ◌≡◌, List, [], ◌∷◌, length, replicate, refl, subst}
use Rattle.std.specs.List.{FoldsTo}
use Rattle.judge.proofs.lists.clear.Goals as goal

-- calls that each give z give a list of z
each_call : {P A : Type 0} (R : P → A → P → Type 0) (z : A) (p q : P) (xs : List A) → FoldsTo R p xs q → ((s t : P) (x : A) → R s x t → x ≡ z) → xs ≡ replicate (length xs) z
each_call R z p q [] f h = refl
each_call R z p q (x ∷ xs) f h = λ i. h p f.0 x f.1 i ∷ each_call R z f.0 q xs f.2 h i

pub returns : goal.returns
returns g c =
    subst (λ n. c.fill_with.new.self ≡ replicate n g.T.Blank.zeroed) c.fill_with.ensures.len
    (each_call _ g.T.Blank.zeroed _ _ _ c.fill_with.ensures.ran.1 (λ s t x k. search rules))
