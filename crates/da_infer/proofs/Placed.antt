-- Tokens of what is added, before any others: types that may be declared, and the lines of variables and messages.
use Rattle.std.specs.Prelude.{◌≡◌, refl, ℕ, zero, suc, ◌+◌, ◌*◌, ◌≤◌, List, [], ◌∷◌, ◌++◌, length, map, drop, take, sum, codes}
use Rattle.std.specs.List.{All, AllByRecursion}
use Rattle.std.proofs.Common.{arith}
use Rattle.std.proofs.lemmas.List.Elements.{All-cons, All-nil}
use Rattle.da_values.specs.declared.token.Mark.TheVariants as m
use Rattle.da_values.specs.Marks.{Tok}
use Rattle.da_lang.specs.declared.ty.Ty.{Ty}
use Rattle.da_lang.specs.declared.ty.Ty.TheVariants as t
use Rattle.da_lang.specs.Spelling as g
use Rattle.da_lang.specs.Spelling.{IsSpelled, Separated, Closed}
use Rattle.da_lang.specs.TypeGrammar as ty
use Rattle.da_lang.specs.TypeGrammar.{TypeIn}
use Rattle.added_names.specs.Filled.{next_type}
use Rattle.type_fitting.specs.Declarable.{IsDeclarable, most_tokens}
use Rattle.da_infer.proofs.MovedLists.{Free}
use Rattle.da_infer.proofs.MovedExprs.{type_moves}
use Rattle.da_infer.proofs.SpelledWords.{tok_of, int_spelled, comma_spelled, close_paren_spelled}

-- at most so many tokens that spell something before s
pub record Placed (Z : List Tok → List Tok → Type 0) (most : ℕ) (s : List Tok) : Type 0 where
  pub now : List Tok
  pub spelled : Z now s
  pub all : All IsSpelled s → All IsSpelled now
  pub few : length now ≤ most + length s

-- a type that some tokens spell, wherever it stands; the number bounds how many things are open in it
pub record HasTokens (size : ℕ) (x : Ty) : Type 0 where
  pub places : (e : ℕ) (s : List Tok) → Placed (TypeIn (λ d. Free) size e x) 1024 s

pub int_placed : (size : ℕ) → 1 ≤ size → HasTokens size t.Int
unfolding TypeIn
int_placed zero some = absurd (omega (arith, some))
int_placed (suc size) some = record {
  places = λ e s. record {
    now = tok_of 0 m.Int (codes "int") ∷ s;
    spelled = ty.IsType.int (g.At.at refl);
    all = λ a. All-cons IsSpelled (tok_of 0 m.Int (codes "int")) s (int_spelled 0) a;
    few = omega arith;
  };
}

pub declarable_placed : (x : Ty) (may : IsDeclarable x) (size : ℕ) → may.size ≤ size → HasTokens size x
unfolding most_tokens
declarable_placed x may size fits = record {
  places = λ e s.
      let a = type_moves (λ d. Free) may.size 0 size e fits x may.tokens [] may.spells s in
      let short : length may.tokens ≤ 1024 = may.short in
      record {
        now = a.now;
        spelled = a.spelled;
        all = λ z. a.along.all may.spelled z;
        few = omega (arith, a.along.size, short);
      };
}

-- ---- lists of types

abbrev pub Have : ℕ → List Ty → Type 0
Have size types = AllByRecursion (HasTokens size) types

pub have_drop : (size n : ℕ) (types : List Ty) → Have size types → Have size (drop n types)
have_drop size zero types h = h
have_drop size (suc n) [] h = tt
have_drop size (suc n) (x ∷ types) h = have_drop size n types h.1

pub have_take : (size n : ℕ) (types : List Ty) → Have size types → Have size (take n types)
have_take size zero types h = tt
have_take size (suc n) [] h = tt
have_take size (suc n) (x ∷ types) h = (h.0, have_take size n types h.1)

pub take_few : (n : ℕ) (types : List Ty) → length (take n types) ≤ n
take_few zero types = omega arith
take_few (suc n) [] = omega arith
take_few (suc n) (x ∷ types) = omega (arith, take_few n types)

pub have_next : (size : ℕ) → 1 ≤ size → (types : List Ty) → Have size types → HasTokens size (next_type types)
unfolding next_type
have_next size some [] h = int_placed size some
have_next size some (x ∷ types) h = h.0

-- a number that bounds how many things are open in each of some types
pub record AreWritten (types : List Ty) : Type 0 where
  pub least : ℕ
  pub have : (size : ℕ) → least ≤ size → Have size types

pub are_written : (types : List Ty) → AllByRecursion IsDeclarable types → AreWritten types
are_written [] may = record { least = 0; have = λ size fits. tt }
are_written (x ∷ types) may =
    let others = are_written types may.1 in
    record {
      least = may.0.size + others.least;
      have = λ size fits. (declarable_placed x may.0 size (omega (arith, fits)), others.have size (omega (arith, fits)));
    }

-- ---- the types of a message in parentheses, after the first one

separated_placed : (size : ℕ) (x : Ty) (xs : List Ty) → Have size (x ∷ xs) → (s : List Tok) → Placed (Separated m.Comma (TypeIn (λ d. Free) size 1) (x ∷ xs)) (1025 * length (x ∷ xs)) s
separated_placed size x [] h s =
    let a = h.0.places 1 s in
    record { now = a.now; spelled = g.Separated.last a.spelled; all = a.all; few = omega (arith, a.few) }
separated_placed size x (y ∷ ys) h s =
    let b = separated_placed size y ys h.1 s in
    let c = tok_of 0 m.Comma (codes ",") in
    let a = h.0.places 1 (c ∷ b.now) in
    record {
      now = a.now;
      spelled = g.Separated.more a.spelled (g.At.at refl) b.spelled;
      all = λ z. a.all (All-cons IsSpelled c b.now (comma_spelled 0) (b.all z));
      few = omega (arith, a.few, b.few);
    }

pub closed_placed : (size : ℕ) (xs : List Ty) → Have size xs → (s : List Tok) → Placed (Closed m.CloseParen (TypeIn (λ d. Free) size 1) xs) (1 + 1025 * length xs) s
closed_placed size [] h s =
    let c = tok_of 0 m.CloseParen (codes ")") in
    record { now = c ∷ s; spelled = g.Closed.empty (g.At.at refl); all = λ z. All-cons IsSpelled c s (close_paren_spelled 0) z; few = omega arith }
closed_placed size (x ∷ xs) h s =
    let c = tok_of 0 m.CloseParen (codes ")") in
    let a = separated_placed size x xs h (c ∷ s) in
    record {
      now = a.now;
      spelled = g.Closed.full a.spelled (g.At.at refl);
      all = λ z. a.all (All-cons IsSpelled c s (close_paren_spelled 0) z);
      few = omega (arith, a.few);
    }
