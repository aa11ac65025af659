-- Patterns and the rows that their matches give, in process 3 whose slots are 7 and (1, p1).
use Rattle.std.specs.Prelude.{◌≡◌, pos, List, [], ◌∷◌, Option, Some, None, codes}
use Rattle.da_values.specs.declared.val.Val.{Val}
use Rattle.da_values.specs.declared.val.Val.TheVariants as val
use Rattle.da_values.specs.declared.value.Value.TheVariants as literal
use Rattle.da_lang.specs.declared.query.Pattern.{Pattern}
use Rattle.da_lang.specs.declared.query.Pattern.TheVariants.{Any, Bind, Const, Me, Equal, Tuple}
use Rattle.da_lang.specs.declared.query.Term.TheVariants as term
use Rattle.da_lang.specs.Matching.{Row, matched}
use Rattle.da_lang.proofs.MatchingLaws.{matching}
use Rattle.lang_examples.proofs.ValueForms.{kinds}

abbrev matches : Pattern → Val → Row → Option Row
matches p x row = matched 3 (val.Int (pos 7) ∷ val.Tuple (val.Int (pos 1) ∷ val.Proc 1 ∷ []) ∷ []) p x row

match_1 : matches (Tuple (Const (literal.Text (codes "ack")) ∷ Bind ∷ Equal (term.Part 1) ∷ [])) (val.Tuple (val.Text (codes "ack") ∷ val.Int (pos 2) ∷ val.Proc 2 ∷ [])) (val.Proc 2 ∷ []) ≡ Some (val.Proc 2 ∷ val.Int (pos 2) ∷ [])
match_1 = simp (matching, kinds)

match_2 : matches (Tuple (Const (literal.Text (codes "ack")) ∷ Bind ∷ Equal (term.Part 1) ∷ [])) (val.Tuple (val.Text (codes "ack") ∷ val.Int (pos 2) ∷ val.Proc 3 ∷ [])) (val.Proc 2 ∷ []) ≡ None
match_2 = simp (matching, kinds)

match_3 : matches (Tuple (Const (literal.Text (codes "ack")) ∷ Bind ∷ Equal (term.Part 1) ∷ [])) (val.Tuple (val.Text (codes "ack") ∷ val.Set (val.Int (pos 1) ∷ val.Int (pos 2) ∷ []) ∷ val.Int (pos 5) ∷ [])) (val.Int (pos 5) ∷ val.Int (pos 6) ∷ []) ≡ Some (val.Int (pos 5) ∷ val.Int (pos 6) ∷ val.Set (val.Int (pos 1) ∷ val.Int (pos 2) ∷ []) ∷ [])
match_3 = simp (matching, kinds)

-- part 1 is the variable itself
match_4 : matches (Tuple (Const (literal.Text (codes "ack")) ∷ Bind ∷ Equal (term.Part 1) ∷ [])) (val.Tuple (val.Text (codes "ack") ∷ val.Int (pos 2) ∷ val.Int (pos 2) ∷ [])) [] ≡ Some (val.Int (pos 2) ∷ [])
match_4 = simp (matching, kinds)

match_5 : matches (Tuple (Const (literal.Text (codes "ack")) ∷ Bind ∷ Equal (term.Part 1) ∷ [])) (val.Tuple (val.Text (codes "ack") ∷ val.Int (pos 2) ∷ [])) (val.Proc 2 ∷ []) ≡ None
match_5 = simp (matching, kinds)

match_6 : matches (Tuple (Const (literal.Text (codes "ack")) ∷ Bind ∷ Equal (term.Part 1) ∷ [])) (val.Tuple (val.Text (codes "ack") ∷ val.Int (pos 2) ∷ val.Proc 2 ∷ val.Int (pos 1) ∷ [])) (val.Proc 2 ∷ []) ≡ None
match_6 = simp (matching, kinds)

match_7 : matches (Tuple (Const (literal.Text (codes "ack")) ∷ Bind ∷ Equal (term.Part 1) ∷ [])) (val.Tuple (val.Text (codes "no") ∷ val.Int (pos 2) ∷ val.Proc 2 ∷ [])) (val.Proc 2 ∷ []) ≡ None
match_7 = simp (matching, kinds)

match_8 : matches (Tuple (Const (literal.Text (codes "ack")) ∷ Bind ∷ Equal (term.Part 1) ∷ [])) (val.Set (val.Text (codes "ack") ∷ [])) (val.Proc 2 ∷ []) ≡ None
match_8 = simp (matching, kinds)

-- whole values
match_9 : matches Any (val.Int (pos 5)) (val.Int (pos 1) ∷ []) ≡ Some (val.Int (pos 1) ∷ [])
match_9 = simp (matching, kinds)

match_10 : matches Bind (val.Tuple (val.Int (pos 5) ∷ val.Set [] ∷ [])) (val.Int (pos 1) ∷ []) ≡ Some (val.Int (pos 1) ∷ val.Tuple (val.Int (pos 5) ∷ val.Set [] ∷ []) ∷ [])
match_10 = simp (matching, kinds)

match_11 : matches Me (val.Proc 3) [] ≡ Some []
match_11 = simp (matching, kinds)

match_12 : matches Me (val.Proc 2) [] ≡ None
match_12 = simp (matching, kinds)

-- constants
match_13 : matches (Const (literal.Int (pos 5))) (val.Int (pos 5)) [] ≡ Some []
match_13 = simp (matching, kinds)

match_14 : matches (Const (literal.Int (pos 5))) (val.Proc 5) [] ≡ None
match_14 = simp (matching, kinds)

-- slots
match_15 : matches (Equal (term.Slot 2)) (val.Tuple (val.Int (pos 1) ∷ val.Proc 1 ∷ [])) [] ≡ Some []
match_15 = simp (matching, kinds)

match_16 : matches (Equal (term.Slot 2)) (val.Tuple (val.Int (pos 1) ∷ val.Proc 2 ∷ [])) [] ≡ None
match_16 = simp (matching, kinds)

-- tuples of terms
match_17 : matches (Equal (term.Tuple (term.Me ∷ term.Slot 1 ∷ term.Part 2 ∷ []))) (val.Tuple (val.Proc 3 ∷ val.Int (pos 7) ∷ val.Set [] ∷ [])) (val.Int (pos 1) ∷ val.Set [] ∷ []) ≡ Some (val.Int (pos 1) ∷ val.Set [] ∷ [])
match_17 = simp (matching, kinds)

match_18 : matches (Equal (term.Tuple (term.Me ∷ term.Slot 1 ∷ term.Part 2 ∷ []))) (val.Tuple (val.Proc 3 ∷ val.Int (pos 7) ∷ val.Set [] ∷ [])) (val.Set [] ∷ val.Int (pos 1) ∷ []) ≡ None
match_18 = simp (matching, kinds)

match_19 : matches (Equal (term.Tuple (term.Me ∷ term.Slot 1 ∷ term.Part 2 ∷ []))) (val.Tuple (val.Proc 3 ∷ val.Int (pos 7) ∷ [])) (val.Int (pos 1) ∷ val.Set [] ∷ []) ≡ None
match_19 = simp (matching, kinds)

-- what is not there, and what has no value
match_20 : matches (Equal (term.Slot 3)) (val.Int (pos 7)) (val.Int (pos 7) ∷ []) ≡ None
match_20 = simp (matching, kinds)

match_21 : matches (Equal (term.Part 0)) (val.Int (pos 7)) (val.Int (pos 7) ∷ []) ≡ None
match_21 = simp (matching, kinds)

match_22 : matches (Equal term.Foreign) (val.Int (pos 7)) (val.Int (pos 7) ∷ []) ≡ None
match_22 = simp (matching, kinds)

-- sets, which match or do not
match_23 : matches Bind (val.Set (val.Int (pos 0) ∷ val.Int (pos 1) ∷ val.Int (pos 2) ∷ val.Int (pos 3) ∷ [])) (val.Int (pos 1) ∷ []) ≡ Some (val.Int (pos 1) ∷ val.Set (val.Int (pos 0) ∷ val.Int (pos 1) ∷ val.Int (pos 2) ∷ val.Int (pos 3) ∷ []) ∷ [])
match_23 = simp (matching, kinds)

match_24 : matches (Const (literal.Set (val.Int (pos 0) ∷ val.Int (pos 1) ∷ val.Int (pos 2) ∷ val.Int (pos 3) ∷ []))) (val.Set (val.Int (pos 0) ∷ val.Int (pos 1) ∷ val.Int (pos 2) ∷ val.Int (pos 3) ∷ [])) [] ≡ Some []
match_24 = simp (matching, kinds)

match_25 : matches (Const (literal.Int (pos 5))) (val.Set (val.Int (pos 0) ∷ val.Int (pos 1) ∷ val.Int (pos 2) ∷ val.Int (pos 3) ∷ [])) (val.Int (pos 1) ∷ []) ≡ None
match_25 = simp (matching, kinds)

match_26 : matches Me (val.Set (val.Int (pos 0) ∷ val.Int (pos 1) ∷ val.Int (pos 2) ∷ val.Int (pos 3) ∷ [])) [] ≡ None
match_26 = simp (matching, kinds)

match_27 : matches (Tuple (Bind ∷ Me ∷ [])) (val.Tuple (val.Set (val.Int (pos 0) ∷ val.Int (pos 1) ∷ val.Int (pos 2) ∷ val.Int (pos 3) ∷ []) ∷ val.Proc 2 ∷ [])) [] ≡ None
match_27 = simp (matching, kinds)

match_28 : matches (Tuple (Bind ∷ Equal (term.Part 1) ∷ [])) (val.Tuple (val.Set (val.Int (pos 0) ∷ val.Int (pos 1) ∷ val.Int (pos 2) ∷ val.Int (pos 3) ∷ []) ∷ val.Set (val.Int (pos 0) ∷ val.Int (pos 1) ∷ val.Int (pos 2) ∷ val.Int (pos 3) ∷ []) ∷ [])) [] ≡ Some (val.Set (val.Int (pos 0) ∷ val.Int (pos 1) ∷ val.Int (pos 2) ∷ val.Int (pos 3) ∷ []) ∷ [])
match_28 = simp (matching, kinds)

match_29 : matches (Tuple (Bind ∷ Equal (term.Part 1) ∷ [])) (val.Tuple (val.Set (val.Int (pos 0) ∷ val.Int (pos 1) ∷ val.Int (pos 2) ∷ val.Int (pos 3) ∷ []) ∷ val.Set (val.Int (pos 0) ∷ val.Int (pos 1) ∷ val.Int (pos 2) ∷ []) ∷ [])) [] ≡ None
match_29 = simp (matching, kinds)
