-- Examples of how many tokens spell a type, and of what is seen of a table.
use Rattle.std.specs.Prelude.{◌≡◌, refl, [], ◌∷◌, true, false}
use Rattle.std.proofs.Common.{arith}
use Rattle.da_lang.specs.declared.ty.Ty.TheVariants as t
use Rattle.da_lang.specs.Types.{ordered_step}
use Rattle.type_table.specs.declared.form.Form.TheVariants as f
use Rattle.type_table.specs.Settling.{is_marked}
use Rattle.type_choice.specs.Looks.{tokens, by_form, set_step, few_levels_step, few_tokens_step, number_at}
use Rattle.type_choice.proofs.CountLaws.{tokens-Int, tokens-Text, tokens-Proc, tokens-Tuple, tokens-Set}

-- `(int,)`
one_part : tokens (t.Tuple (t.Int ∷ [])) ≡ 4
one_part = omega (arith, tokens-Tuple (t.Int ∷ []), tokens-Int)

-- `(int, proc)`
two_parts : tokens (t.Tuple (t.Int ∷ t.Proc ∷ [])) ≡ 5
two_parts = omega (arith, tokens-Tuple (t.Int ∷ t.Proc ∷ []), tokens-Int, tokens-Proc)

-- `set[(int, str)]`
set_of_pairs : tokens (t.Set (t.Tuple (t.Int ∷ t.Text ∷ []))) ≡ 8
set_of_pairs = omega (arith, tokens-Set (t.Tuple (t.Int ∷ t.Text ∷ [])), tokens-Tuple (t.Int ∷ t.Text ∷ []), tokens-Int, tokens-Text)

-- two parts are the same number, of which 3 levels and 11 tokens were seen
same_part_twice : by_form few_levels_step (number_at (3 ∷ [])) (f.Tuple (0 ∷ 0 ∷ [])) ≡ 4
same_part_twice = refl

same_tokens_twice : by_form few_tokens_step (number_at (11 ∷ [])) (f.Tuple (0 ∷ 0 ∷ [])) ≡ 25
same_tokens_twice = refl

-- the counts end at one too many
deep_part : by_form few_levels_step (number_at (33 ∷ [])) (f.Set 0) ≡ 33
deep_part = refl

long_part : by_form few_tokens_step (number_at (1000 ∷ [])) (f.Tuple (0 ∷ 0 ∷ [])) ≡ 1025
long_part = refl

-- a tuple with a part that is not ordered, and a number that is the same as a set
unordered_part : by_form ordered_step (is_marked (true ∷ false ∷ [])) (f.Tuple (0 ∷ 1 ∷ [])) ≡ false
unordered_part = refl

same_as_set : by_form set_step (is_marked (true ∷ [])) (f.Same 0) ≡ true
same_as_set = refl
