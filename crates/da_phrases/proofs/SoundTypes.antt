-- Types: what is read is spelled so.
use Rattle.std.proofs.Common.{◌≡◌, ℕ, zero, suc, ◌≤◌, ◌<◌, Bool, true, List, [], ◌∷◌, length, Option, Some, Ok, refl, sym, subst, arith}
use Rattle.da_values.specs.declared.token.Mark.{Mark}
use Rattle.da_values.specs.declared.token.Mark.TheVariants as m
use Rattle.da_values.specs.Marks.{Tok}
use Rattle.da_lang.specs.declared.ty.Ty.{Ty}
use Rattle.da_lang.specs.declared.ty.Ty.TheVariants as ty
use Rattle.da_lang.specs.Spelling.{Spelling, Room, At, Opens}
use Rattle.da_lang.specs.TypeGrammar as g
use Rattle.da_lang.specs.TypeGrammar.{IsType, TypeIn}
use Rattle.da_phrases.specs.Reader.{mark, rest, Reader, ◌>>◌, pure, past}
use Rattle.da_phrases.specs.Lists.{closed}
use Rattle.da_phrases.specs.Place.{Limit}
use Rattle.da_phrases.specs.Types.{set_type, tuple_type, type_by, type_in, types}
use Rattle.da_phrases.proofs.Steps.{At-mark}
use Rattle.da_phrases.proofs.Laws.{IsSound}
use Rattle.da_phrases.proofs.SoundSteps.{reads, made, passes, opened_by, opening_by}
use Rattle.da_phrases.proofs.ListSound.{closed-sound}

module _ (may_open : ℕ → Bool) (room : Room) (fits : (t : List Tok) → may_open (length t) ≡ true → room t) (inner : Reader Ty) (Inner : Spelling Ty) (sound : IsSound inner Inner) where
  -- after `set`
  set_type-sound : (t i : List Tok) (y : Ty × List Tok) → At m.Set t i → set_type may_open inner i ≡ Ok y → IsType room Inner y.0 t y.1
  unfolding set_type
  set_type-sound t i y word e =
      opening_by may_open room fits m.OpenBracket i _ y e (λ r opened e1.
      reads (inner r) _ y e1 (λ x s read e2.
      passes m.CloseBracket s _ y e2 (λ q over last.
      made (IsType room Inner) t y last (g.set word opened (sound r (x, s) read) over))))

  -- after `(`
  tuple_type-sound : (t i : List Tok) (y : Ty × List Tok) → Opens m.OpenParen room t i → tuple_type may_open inner i ≡ Ok y → IsType room Inner y.0 t y.1
  unfolding tuple_type
  tuple_type-sound t i y opened e =
      reads (inner i) _ y e (λ x r read e1.
      passes m.Comma r _ y e1 (λ s comma e2.
      reads (closed m.CloseParen inner (x ∷ []) s) _ y e2 (λ all q others last.
      let (xs, is, spelled) = closed-sound m.CloseParen inner Inner sound (x ∷ []) s (all, q) others in
      made (IsType room Inner) t y last (subst (λ l. IsType room Inner (ty.Tuple l) t q) (sym is) (g.tuple opened (sound i (x, r) read) comma spelled)))))

  -- a type of one word
  word-sound : (x : Ty) (i : List Tok) (y : Ty × List Tok) → IsType room Inner x i (rest i) → past (pure x) i ≡ Ok y → IsType room Inner y.0 i y.1
  word-sound x i y spelled e = made (IsType room Inner) i y e spelled

  type_by-sound : (k : Option Mark) (i : List Tok) (y : Ty × List Tok) → mark i ≡ k → type_by may_open inner k i ≡ Ok y → IsType room Inner y.0 i y.1
  type_by-sound (Some m.Int) i y is e = word-sound ty.Int i y (g.int (At-mark m.Int i is)) e
  type_by-sound (Some m.Bool) i y is e = word-sound ty.Bool i y (g.bool (At-mark m.Bool i is)) e
  type_by-sound (Some m.Str) i y is e = word-sound ty.Text i y (g.str (At-mark m.Str i is)) e
  type_by-sound (Some m.Proc) i y is e = word-sound ty.Proc i y (g.proc (At-mark m.Proc i is)) e
  type_by-sound (Some m.Set) i y is e = set_type-sound i (rest i) y (At-mark m.Set i is) e
  type_by-sound (Some m.OpenParen) i y is e =
      opened_by may_open room fits m.OpenParen i _ y (At-mark m.OpenParen i is) e (λ r opened next. tuple_type-sound i r y opened next)
  type_by-sound _ i y is e = cc

  pub type_in-sound : IsSound (type_in may_open inner) (IsType room Inner)
  unfolding type_in
  type_in-sound i y e = type_by-sound (mark i) i y refl e

-- by a rule of how many things may be open, which allows no more than that of the grammar
module _ (limit : Limit) (room : ℕ → Room) (fits : (d : ℕ) (t : List Tok) → limit d (length t) ≡ true → room d t) where
  pub types-sound : (f n d : ℕ) → f ≤ n → IsSound (types limit f d) (TypeIn room n d)
  unfolding types TypeIn
  types-sound zero n d le i y e = cc
  types-sound (suc f) zero d le i y e = absurd (omega arith)
  types-sound (suc f) (suc n) d le i y e = type_in-sound (limit d) (room d) (fits d) (types limit f (suc d)) (TypeIn room n (suc d)) (types-sound f n (suc d) (omega arith)) i y e

  -- a type where d things are open, of which inner types are one deeper
  pub type_there-sound : (f n d : ℕ) → f ≤ n → IsSound (type_in (limit d) (types limit f (suc d))) (IsType (room d) (TypeIn room n (suc d)))
  type_there-sound f n d le = type_in-sound (limit d) (room d) (fits d) (types limit f (suc d)) (TypeIn room n (suc d)) (types-sound f n (suc d) le)

  -- the same in the words of programs
  pub type_here-sound : (f n d : ℕ) → f < n → IsSound (type_in (limit d) (types limit f (suc d))) (TypeIn room n d)
  unfolding TypeIn
  type_here-sound f zero d less i y e = absurd (omega arith)
  type_here-sound f (suc n) d less i y e = type_there-sound f n d (omega arith) i y e
