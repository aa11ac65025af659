-- The first fault by the grammar in which each parameter has its type, in both of its forms.
use Rattle.std.proofs.Common.{◌≡◌, ℕ, false, List, [], ◌∷◌, ◌++◌}
use Rattle.da_values.specs.Marks.{Tok}
use Rattle.da_lang.specs.Begins.{Begins, BeginsWithin}
use Rattle.da_parse.specs.declared.whole.ParseFault.{ParseFault}
use Rattle.da_parse.specs.declared.whole.ParseFault.TheVariants as fault
use Rattle.da_parse.specs.FirstFault.{NoneGoesOn, IsSyntax, IsDeep, IsFirst}
use Rattle.da_parse.specs.Parameters.{BeginsBy, BeginsWithinBy, NoneGoesOnBy, IsSyntaxBy, IsDeepBy, IsFirstBy}
use Rattle.da_parse.proofs.WholePrograms.{typed_spells, spells_typed}

begins_typed : (front : List Tok) → BeginsBy false front → Begins front
begins_typed front h = record { rest = h.rest; tree = h.tree; spells = spells_typed h.tree (front ++ h.rest) h.spells }

typed_begins : (front : List Tok) → Begins front → BeginsBy false front
typed_begins front h = record { rest = h.rest; tree = h.tree; spells = typed_spells h.tree (front ++ h.rest) h.spells }

within_typed : (front : List Tok) → BeginsWithinBy false 32 front → BeginsWithin 32 front
within_typed front h = record { rest = h.rest; tree = h.tree; spelled = h.spelled; size = h.size; within = h.within }

typed_within : (front : List Tok) → BeginsWithin 32 front → BeginsWithinBy false 32 front
typed_within front h = record { rest = h.rest; tree = h.tree; spelled = h.spelled; size = h.size; within = h.within }

none_typed : (front rest : List Tok) → NoneGoesOnBy false front rest → NoneGoesOn front rest
none_typed front [] none = λ tree spells. none tree (typed_spells tree front spells)
none_typed front (t ∷ rest) none = λ begins. none (typed_begins (front ++ t ∷ []) begins)

typed_none : (front rest : List Tok) → NoneGoesOn front rest → NoneGoesOnBy false front rest
typed_none front [] none = λ tree spells. none tree (spells_typed tree front spells)
typed_none front (t ∷ rest) none = λ begins. none (begins_typed (front ++ t ∷ []) begins)

pub first_typed : (i : List Tok) (why : ParseFault) → IsFirstBy false i why → IsFirst i why
first_typed i (fault.Syntax line) p = record { front = p.front; rest = p.rest; whole = p.whole; begins = within_typed p.front p.begins; refused = none_typed p.front p.rest p.refused; place = p.place }
first_typed i (fault.Deep line) p = record {
  front = p.front;
  token = p.token;
  rest = p.rest;
  whole = p.whole;
  before = within_typed p.front p.before;
  begins = begins_typed (p.front ++ p.token ∷ []) p.begins;
  deep = λ begins. p.deep (typed_within (p.front ++ p.token ∷ []) begins);
  place = p.place;
}
first_typed i fault.Memory p = p

pub typed_first : (i : List Tok) (why : ParseFault) → IsFirst i why → IsFirstBy false i why
typed_first i (fault.Syntax line) p = record { front = p.front; rest = p.rest; whole = p.whole; begins = typed_within p.front p.begins; refused = typed_none p.front p.rest p.refused; place = p.place }
typed_first i (fault.Deep line) p = record {
  front = p.front;
  token = p.token;
  rest = p.rest;
  whole = p.whole;
  before = typed_within p.front p.before;
  begins = typed_begins (p.front ++ p.token ∷ []) p.begins;
  deep = λ begins. p.deep (within_typed (p.front ++ p.token ∷ []) begins);
  place = p.place;
}
typed_first i fault.Memory p = p
