-- Lists of records in use and blanks: more of them, cut back, blanked. Assumes nothing.
use Rattle.std.proofs.Common.{◌≡◌, ℕ, ◌+◌, ◌-◌, ◌<◌, ◌≤◌, cond, ◌&&◌, ltb, leb, List, [], ◌++◌, length, get_or, take, drop, min, replicate, sym, refl, ap, ◌∙◌, subst, ⊎_elim, arith}
use Rattle.std.proofs.lemmas.List.{length-append, length-take-le, length-drop, drop-drop, length-replicate, get_or_append_left, get_or-append_right, get_or_past, get_or-replicate, get_or-take, get_or-drop}
use Rattle.std.proofs.lemmas.Bool.{cases_lt, cases_Bool, cond-true, cond-false, and_from, and_left, and_right, le-leb, lt-ltb, le-ltb, lt-leb}
use Rattle.judge.specs.Lists.{Blanked, Listed}

module _ {A : Type 0} (z : A) where
  -- from place a up to place b the list m has what f says, and else what l has
  abbrev pub Put : (ℕ → A) → ℕ → ℕ → List A → List A → Type 0
  Put f a b l m = (i : ℕ) → get_or m i z ≡ cond (leb a i && ltb i b) (f i) (get_or l i z)

  inside : (a b i : ℕ) (y x : A) → a ≤ i → i < b → cond (leb a i && ltb i b) y x ≡ y
  inside a b i y x h k = cond-true _ y x (and_from _ _ (le-leb a i h) (lt-ltb i b k))

  below : (a b i : ℕ) (y x : A) → i < a → cond (leb a i && ltb i b) y x ≡ x
  below a b i y x h = cond-false _ y x (and_left _ _ (lt-leb a i h))

  above : (a b i : ℕ) (y x : A) → b ≤ i → cond (leb a i && ltb i b) y x ≡ x
  above a b i y x h = cond-false _ y x (and_right _ _ (le-ltb i b h))

  -- after a write of the records xs at place a
  pub put_mid_is : (a : ℕ) (xs l m : List A) → a + length xs ≤ length l → m ≡ take a l ++ (xs ++ drop (a + length xs) l) → Put (λ k. get_or xs (k - a) z) a (a + length xs) l m
  put_mid_is a xs l m h e i =
      let n : length (take a l) ≡ a = length-take-le a l (omega arith) in
      ap (λ v. get_or v i z) e
      ∙ ⊎_elim
      (λ (p : i < a).
      get_or_append_left (take a l) (xs ++ drop (a + length xs) l) z i (omega arith) ∙ get_or-take a l i z p ∙ sym (below a (a + length xs) i (get_or xs (i - a) z) (get_or l i z) p))
      (λ (p : a ≤ i).
      get_or-append_right (take a l) (xs ++ drop (a + length xs) l) a i z n p
      ∙ ⊎_elim
      (λ (q : i < a + length xs).
      get_or_append_left xs (drop (a + length xs) l) z (i - a) (omega arith) ∙ sym (inside a (a + length xs) i (get_or xs (i - a) z) (get_or l i z) p q))
      (λ (q : a + length xs ≤ i).
      get_or-append_right xs (drop (a + length xs) l) (length xs) (i - a) z refl (omega arith)
      ∙ get_or-drop (a + length xs) l (i - a - length xs) z
      ∙ ap (λ k. get_or l k z) (omega arith)
      ∙ sym (above a (a + length xs) i (get_or xs (i - a) z) (get_or l i z) q))
      (cases_lt i (a + length xs)))
      (cases_lt i a)

  length_mid : (a : ℕ) (xs l m : List A) → a + length xs ≤ length l → m ≡ take a l ++ (xs ++ drop (a + length xs) l) → length m ≡ length l
  length_mid a xs l m h e =
      omega (arith, ap length e, length-append (take a l) (xs ++ drop (a + length xs) l), length-append xs (drop (a + length xs) l), length-take-le a l (omega arith), length-drop (a + length xs) l)

  -- past the end of a list everything is blank
  pub blanked_end : (a b c : ℕ) (l m : List A) → length m ≡ length l → ((i : ℕ) → i < length l → a ≤ i → (i < b → i < c) × (i < c → i < b)) → Blanked z a b l m → Blanked z a c l m
  blanked_end a b c l m n f e i =
      ⊎_elim
      (λ (h : i < length l).
      e i
      ∙ ⊎_elim
      (λ (q : i < a). below a b i z (get_or l i z) q ∙ sym (below a c i z (get_or l i z) q))
      (λ (q : a ≤ i).
      ⊎_elim
      (λ (p : i < b). inside a b i z (get_or l i z) q p ∙ sym (inside a c i z (get_or l i z) q ((f i h q).0 p)))
      (λ (p : b ≤ i).
      let r : c ≤ i = ⊎_elim (λ (r : i < c). let s : i < b = (f i h q).1 r in absurd (omega arith)) (λ r. r) (cases_lt i c) in
      above a b i z (get_or l i z) p ∙ sym (above a c i z (get_or l i z) r))
      (cases_lt i b))
      (cases_lt i a))
      (λ (h : length l ≤ i).
      get_or_past m i z (omega arith)
      ∙ sym (⊎_elim (λ t. cond-true _ z (get_or l i z) t) (λ t. cond-false _ z (get_or l i z) t ∙ get_or_past l i z h) (cases_Bool (leb a i && ltb i c))))
      (cases_lt i (length l))

  -- every record of a blank list is blank
  blank_at : (n i : ℕ) → get_or (replicate n z) i z ≡ z
  blank_at n i =
      ⊎_elim (λ (h : i < n). get_or-replicate n i z z h) (λ (h : n ≤ i). get_or_past (replicate n z) i z (omega (arith, length-replicate n z))) (cases_lt i n)

  -- after the part from a up to b is blanked, and c is where the list or the part ends
  pub blanked_mid : (a b c : ℕ) (l ys : List A) → a ≤ b → b ≡ min c (length l) → ys ≡ replicate (length (take (b - a) (drop a l))) z → Blanked z a c l (take a l ++ (ys ++ drop (b - a) (drop a l)))
  blanked_mid a b c l ys h k e =
      let m = take a l ++ (ys ++ drop (b - a) (drop a l)) in
      let blanks = replicate (b - a) z in
      let size : length (take (b - a) (drop a l)) ≡ b - a = length-take-le (b - a) (drop a l) (omega (arith, length-drop a l)) in
      let part : ys ≡ blanks = e ∙ ap (λ n. replicate n z) size in
      let n : a + length blanks ≡ b = omega (arith, length-replicate (b - a) z) in
      let rest : drop (b - a) (drop a l) ≡ drop (a + length blanks) l = drop-drop (b - a) a l ∙ ap (λ v. drop v l) (omega arith) in
      let is : m ≡ take a l ++ (blanks ++ drop (a + length blanks) l) = λ i. take a l ++ (part i ++ rest i) in
      let put : Blanked z a b l m = λ i.
      subst (λ v. get_or m i z ≡ cond (leb a i && ltb i v) z (get_or l i z)) n
      (put_mid_is a blanks l m (omega arith) is i ∙ ap (λ v. cond (leb a i && ltb i (a + length blanks)) v (get_or l i z)) (blank_at (b - a) (i - a))) in
      blanked_end a b c l m (length_mid a blanks l m (omega arith) is)
      (λ i p q. ((λ r. omega arith), (λ r. omega arith))) put

  -- nothing in use
  pub listed_none : (l : List A) → Listed z l 0 []
  listed_none l =
      record {
        agree = λ i h. absurd (omega arith);
        count = refl;
        fits = omega arith;
      }

  -- what is read of the records in use, and a blank past them
  pub listed_read : (l : List A) (k : ℕ) (xs : List A) (i : ℕ) → Listed z l k xs → cond (ltb i k) (get_or l i z) z ≡ get_or xs i z
  listed_read l k xs i s =
      ⊎_elim
      (λ (h : i < k). cond-true _ (get_or l i z) z (lt-ltb i k h) ∙ s.agree i h)
      (λ (h : k ≤ i). let c : length xs ≡ k = s.count in cond-false _ (get_or l i z) z (le-ltb i k h) ∙ sym (get_or_past xs i z (omega arith)))
      (cases_lt i k)

  -- more records in use
  pub listed_append : (l m : List A) (k : ℕ) (xs ys : List A) → k + length ys ≤ length l → m ≡ take k l ++ (ys ++ drop (k + length ys) l) → Listed z l k xs → Listed z m (k + length ys) (xs ++ ys)
  listed_append l m k xs ys h was s =
      let e = put_mid_is k ys l m h was in
      let c : length xs ≡ k = s.count in
      let p : length (xs ++ ys) ≡ length xs + length ys = length-append xs ys in
      let n : length m ≡ length l = length_mid k ys l m h was in
      record {
        agree = λ i r.
            ⊎_elim
            (λ (q : i < k). e i ∙ below k (k + length ys) i (get_or ys (i - k) z) (get_or l i z) q ∙ s.agree i q ∙ sym (get_or_append_left xs ys z i (omega arith)))
            (λ (q : k ≤ i). e i ∙ inside k (k + length ys) i (get_or ys (i - k) z) (get_or l i z) q r ∙ sym (get_or-append_right xs ys k i z c q))
            (cases_lt i k);
        count = omega arith;
        fits = omega arith;
      }

  -- fewer records in use
  pub listed_cut : (l m : List A) (a b : ℕ) (xs : List A) → a ≤ b → length m ≡ length l → Blanked z a b l m → Listed z l b xs → Listed z m a (take a xs)
  listed_cut l m a b xs h n e s =
      let f : b ≤ length l = s.fits in
      let c : length xs ≡ b = s.count in
      let t : length (take a xs) ≡ a = length-take-le a xs (omega arith) in
      record {
        agree = λ i p. e i ∙ below a b i z (get_or l i z) p ∙ s.agree i (omega arith) ∙ sym (get_or-take a xs i z p);
        count = t;
        fits = omega arith;
      }
