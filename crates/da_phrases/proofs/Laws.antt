-- In what sense a reader and a relation of the grammar agree, in either direction.
use Rattle.std.specs.Prelude.{◌≡◌, ◌<◌, Bool, true, false, List, length, Option, Some, None, Ok}
use Rattle.da_values.specs.declared.token.Mark.{Mark}
use Rattle.da_values.specs.declared.token.Mark.TheVariants as m
use Rattle.da_values.specs.Marks.{Tok}
use Rattle.da_lang.specs.Spelling.{Spelling, Room, At}
use Rattle.da_lang.specs.ExprGrammar.{Deeper}
use Rattle.da_phrases.specs.declared.place.Level.TheVariants as level
use Rattle.da_phrases.specs.Reader.{Reader, mark}
use Rattle.da_phrases.specs.Place.{Place}

-- what is read is spelled so
abbrev pub IsSound : {A : Type 0} → Reader A → Spelling A → Type 0
IsSound {A} p G = (i : List Tok) (y : A × List Tok) → p i ≡ Ok y → G y.0 i y.1

-- what is spelled so is read so, where what follows does not go on with it
abbrev pub IsComplete : {A : Type 0} → (List Tok → Type 0) → Reader A → Spelling A → Type 0
IsComplete {A} Stops p G = (x : A) (i r : List Tok) → G x i r → Stops r → p i ≡ Ok (x, r)

-- at least one token is passed
abbrev pub Shrinks : {A : Type 0} → Spelling A → Type 0
Shrinks {A} G = (x : A) (i r : List Tok) → G x i r → length r < length i

-- the next token is one of these
abbrev pub is_next : (Mark → Bool) → Option Mark → Bool
is_next one None = false
is_next one (Some k) = one k

-- it begins with one of these tokens
abbrev pub Begins : {A : Type 0} → (Mark → Bool) → Spelling A → Type 0
Begins {A} one G = (x : A) (i r : List Tok) → G x i r → is_next one (mark i) ≡ true

-- the next token is none of these
abbrev pub Lacks : (Mark → Bool) → List Tok → Type 0
Lacks one r = is_next one (mark r) ≡ false

-- it stands after a token of this mark
pub data Led (k : Mark) {A : Type 0} (G : Spelling A) : A → List Tok → List Tok → Type 0 where
  led : {x : A} {t r s : List Tok} → At k t r → G x r s → Led k G x t s

-- whatever follows
abbrev pub Anything : List Tok → Type 0
Anything r = Unit {0}

-- the tokens that go on with a product, a sum, a comparison, a conjunction, a disjunction, generators, an expression
abbrev pub goes_on_prod : Mark → Bool
goes_on_prod m.Star = true
goes_on_prod m.Slashes = true
goes_on_prod m.Percent = true
goes_on_prod _ = false

abbrev pub goes_on_sum : Mark → Bool
goes_on_sum m.Plus = true
goes_on_sum m.Minus = true
goes_on_sum k = goes_on_prod k

abbrev pub goes_on_comp : Mark → Bool
goes_on_comp m.Equal = true
goes_on_comp m.NotEqual = true
goes_on_comp m.Less = true
goes_on_comp m.LessEqual = true
goes_on_comp m.Greater = true
goes_on_comp m.GreaterEqual = true
goes_on_comp m.In = true
goes_on_comp k = goes_on_sum k

abbrev pub goes_on_conj : Mark → Bool
goes_on_conj m.And = true
goes_on_conj k = goes_on_comp k

abbrev pub goes_on_disj : Mark → Bool
goes_on_disj m.Or = true
goes_on_disj k = goes_on_conj k

abbrev pub goes_on_expr : Mark → Bool
goes_on_expr m.Comma = true
goes_on_expr m.Bar = true
goes_on_expr m.Has = true
goes_on_expr k = goes_on_disj k

-- the tokens that may go on with a parameter, by any rule of parameters
abbrev pub goes_on_param : Mark → Bool
goes_on_param m.Colon = true
goes_on_param _ = false

-- the readers of a place are sound for what the grammar has there
pub record Sounds (p : Place) (room : Room) (deep : Deeper) : Type 0 where
  pub fits : (t : List Tok) → p.may_open (length t) ≡ true → room t
  pub expr : IsSound (p.expr level.Expr) deep.expr
  pub disj : IsSound (p.expr level.Disj) deep.disj
  pub neg : IsSound (p.expr level.Neg) deep.neg
  pub unary : IsSound (p.expr level.Unary) deep.unary
  pub pattern : IsSound p.pattern deep.pattern

-- the readers of a place are complete for what the grammar has there, if anything may be opened there
pub record Completes (p : Place) (room : Room) (deep : Deeper) : Type 0 where
  pub allows : (t : List Tok) → room t → p.may_open (length t) ≡ true
  pub expr : (t : List Tok) → room t → IsComplete (Lacks goes_on_expr) (p.expr level.Expr) deep.expr
  pub disj : (t : List Tok) → room t → IsComplete (Lacks goes_on_disj) (p.expr level.Disj) deep.disj
  pub neg : (t : List Tok) → room t → IsComplete (Lacks goes_on_comp) (p.expr level.Neg) deep.neg
  pub unary : (t : List Tok) → room t → IsComplete Anything (p.expr level.Unary) deep.unary
  pub pattern : (t : List Tok) → room t → IsComplete Anything p.pattern deep.pattern
