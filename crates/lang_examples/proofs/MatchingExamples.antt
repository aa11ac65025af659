-- Each kind of pattern, in process 3 whose slot 1 is 6, after a row with the one part 5.
use Rattle.std.specs.Prelude.{◌≡◌, pos, negsuc, true, [], ◌∷◌, Option, Some, None, codes}
use Rattle.da_values.specs.declared.val.Val.{Val}
use Rattle.da_values.specs.declared.val.Val.TheVariants as val
use Rattle.da_values.specs.declared.value.Value.TheVariants as literal
use Rattle.da_lang.specs.declared.query.Pattern.{Pattern}
use Rattle.da_lang.specs.declared.query.Pattern.TheVariants.{Any, Bind, Const, Me, Equal, Tuple}
use Rattle.da_lang.specs.declared.query.Term.TheVariants as term
use Rattle.da_lang.specs.Matching.{Row, matched, matched_entry}
use Rattle.da_lang.specs.World.{Data}
use Rattle.da_lang.proofs.MatchingLaws.{matching}

abbrev five : Val
five = val.Int (pos 5)

abbrev six : Val
six = val.Int (pos 6)

abbrev matches : Pattern → Val → Option Row
matches p x = matched 3 (six ∷ []) p x (five ∷ [])

wild : matches Any six ≡ Some (five ∷ [])
wild = simp matching

new_variable : matches Bind six ≡ Some (five ∷ six ∷ [])
new_variable = simp matching

number : matches (Const (literal.Int (pos 6))) six ≡ Some (five ∷ [])
number = simp matching

other_number : matches (Const (literal.Int (negsuc 6))) six ≡ None
other_number = simp matching

number_against_process : matches (Const (literal.Int (pos 6))) (val.Proc 6) ≡ None
number_against_process = simp matching

text : matches (Const (literal.Text (codes "ping"))) (val.Text (codes "ping")) ≡ Some (five ∷ [])
text = simp matching

other_text : matches (Const (literal.Text (codes "ping"))) (val.Text (codes "pong")) ≡ None
other_text = simp matching

truth : matches (Const (literal.Bool true)) (val.Bool true) ≡ Some (five ∷ [])
truth = simp matching

itself : matches Me (val.Proc 3) ≡ Some (five ∷ [])
itself = simp matching

other_process : matches Me (val.Proc 2) ≡ None
other_process = simp matching

earlier_variable : matches (Equal (term.Part 1)) five ≡ Some (five ∷ [])
earlier_variable = simp matching

not_earlier_variable : matches (Equal (term.Part 1)) six ≡ None
not_earlier_variable = simp matching

slot : matches (Equal (term.Slot 1)) six ≡ Some (five ∷ [])
slot = simp matching

tuple_of_terms : matches (Equal (term.Tuple (term.Slot 1 ∷ term.Part 1 ∷ term.Me ∷ []))) (val.Tuple (six ∷ five ∷ val.Proc 3 ∷ [])) ≡ Some (five ∷ [])
tuple_of_terms = simp matching

foreign : matches (Equal term.Foreign) six ≡ None
foreign = simp matching

within_foreign : matches (Equal (term.Tuple (term.Foreign ∷ []))) (val.Tuple (six ∷ [])) ≡ None
within_foreign = simp matching

parts : matches (Tuple (Bind ∷ Any ∷ Bind ∷ [])) (val.Tuple (six ∷ five ∷ val.Proc 2 ∷ [])) ≡ Some (five ∷ six ∷ val.Proc 2 ∷ [])
parts = simp matching

-- a variable of the same pattern, from after its place
variable_of_same_pattern : matches (Tuple (Bind ∷ Equal (term.Part 2) ∷ [])) (val.Tuple (six ∷ six ∷ [])) ≡ Some (five ∷ six ∷ [])
variable_of_same_pattern = simp matching

other_than_variable : matches (Tuple (Bind ∷ Equal (term.Part 2) ∷ [])) (val.Tuple (six ∷ five ∷ [])) ≡ None
other_than_variable = simp matching

not_yet_there : matches (Tuple (Equal (term.Part 2) ∷ Bind ∷ [])) (val.Tuple (six ∷ six ∷ [])) ≡ None
not_yet_there = simp matching

within_a_part : matches (Tuple (Tuple (Bind ∷ []) ∷ Bind ∷ [])) (val.Tuple (val.Tuple (six ∷ []) ∷ five ∷ [])) ≡ Some (five ∷ six ∷ five ∷ [])
within_a_part = simp matching

shorter : matches (Tuple (Bind ∷ Bind ∷ [])) (val.Tuple (six ∷ [])) ≡ None
shorter = simp matching

longer : matches (Tuple (Bind ∷ [])) (val.Tuple (six ∷ five ∷ [])) ≡ None
longer = simp matching

no_tuple : matches (Tuple (Bind ∷ [])) six ≡ None
no_tuple = simp matching

abbrev process : Data
process = record { me = 3; slots = six ∷ []; sent = []; received = []; clock = 0 }

-- the message first, and then the sender, which may equal a part of the message
from_the_one_named : matched_entry process (Tuple (Const (literal.Text (codes "go")) ∷ Bind ∷ [])) (Equal (term.Part 1)) (val.Tuple (val.Text (codes "go") ∷ val.Proc 2 ∷ [])) 2 [] ≡ Some (val.Proc 2 ∷ [])
from_the_one_named = simp matching

from_another : matched_entry process (Tuple (Const (literal.Text (codes "go")) ∷ Bind ∷ [])) (Equal (term.Part 1)) (val.Tuple (val.Text (codes "go") ∷ val.Proc 2 ∷ [])) 1 [] ≡ None
from_another = simp matching

-- a peer that its place does not allow
foreign_peer : matched_entry process Any (Tuple (Equal term.Foreign ∷ Bind ∷ [])) six 2 [] ≡ None
foreign_peer = simp matching
