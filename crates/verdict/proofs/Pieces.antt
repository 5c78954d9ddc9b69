-- One piece of text after another.
use Rattle.std.proofs.Common.{ℕ, ◌≤◌, List, ◌++◌, length, sym, refl, ap, ◌∙◌, arith, length-append}
use lib.Seq.{paste}
use Rattle.std.proofs.lemmas.List.Edits.{paste_all, paste-paste}
use Rattle.verdict.specs.declared.line.Cursor.{Cursor}
use Rattle.verdict.specs.Answers.{Appends}

-- two pieces are one
pub both : {xs ys : List ℕ} {c c' c'' : Cursor} → c.at ≤ length c.out.now →
    Appends xs c c' → Appends ys c' c'' → Appends (xs ++ ys) c c''
both {xs} {ys} {c} {c'} {c''} h p q =
    let first = p.out_is ∙ sym (paste_all c.out.now c.at xs (length xs) refl) in
    let second = q.out_is ∙ sym (paste_all c'.out.now c'.at ys (length ys) refl) in
    let all = second ∙ ((λ i. paste (first i) (p.end_is i) ys (length ys)) ∙ paste-paste c.out.now c.at xs ys (length xs) (length ys) refl refl h) in
    let long = length-append xs ys in
    record {
      same_reference = q.same_reference ∙ p.same_reference;
      end_is = omega (arith, long, p.end_is, q.end_is);
      out_is = all ∙ (ap (paste c.out.now c.at (xs ++ ys)) (sym long) ∙ paste_all c.out.now c.at (xs ++ ys) (length (xs ++ ys)) refl);
    }
