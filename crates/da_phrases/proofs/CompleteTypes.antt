-- A type that is spelled by the grammar is read, whatever follows, if the reader may open as many things as the grammar.
use Rattle.std.proofs.Common.{◌≡◌, ℕ, zero, suc, ◌+◌, ◌-◌, ◌≤◌, Bool, true, List, [], ◌∷◌, length, Some, Ok, refl, sym, ap, ◌∙◌, subst, arith, inl, inr, add-zero}
use Rattle.std.specs.Prelude.{◌⊎◌}
use Rattle.da_values.specs.declared.token.Mark.{Mark}
use Rattle.da_values.specs.declared.token.Mark.TheVariants as m
use Rattle.da_values.specs.Marks.{Tok}
use Rattle.da_lang.specs.declared.ty.Ty.{Ty}
use Rattle.da_lang.specs.declared.ty.Ty.TheVariants as ty
use Rattle.da_lang.specs.Spelling.{Spelling, Room, At, Opens, Closed}
use Rattle.da_lang.specs.TypeGrammar.{IsType, TypeIn}
use Rattle.da_phrases.specs.Reader.{Reading, Reader, pure, mark}
use Rattle.da_phrases.specs.Place.{Limit}
use Rattle.da_phrases.specs.Types.{set_type, tuple_type, type_by, type_in, types}
use Rattle.da_phrases.proofs.Laws.{IsComplete, Shrinks, Begins, Anything}
use Rattle.da_phrases.proofs.Steps.{mark-At, expect_is, mark-Opens, room-Opens, opens_is, opening_is, past_is}
use Rattle.da_phrases.proofs.Shorter.{TypeIn-shrinks}
use Rattle.da_phrases.proofs.Firsts.{begins_type, TypeIn-begins}
use Rattle.da_phrases.proofs.ListComplete.{closed-complete}

-- ---- how many more things a reader may open

-- Where d things are open the grammar may open g more and the reader f: these are as many, or the grammar allows nothing to be opened where the reader can no more.
abbrev pub Enough : (ℕ → Room) → ℕ → ℕ → ℕ → Type 0
Enough room g f d = (g ≤ f) ⊎ ((t : List Tok) → room (d + f) t → ⊥)

-- one thing more is open
pub enough_inside : (room : ℕ → Room) (g f d : ℕ) → Enough room (suc g) (suc f) d → Enough room g f (suc d)
enough_inside room g f d e = elim e [
  | inl h ↦ inl (omega arith)
  | inr h ↦ inr (λ t some. let moved : suc d + f ≡ d + suc f = omega arith in h t (subst (λ n. room n t) moved some))
]

-- the grammar opens fewer
pub enough_fewer : (room : ℕ → Room) (g f d : ℕ) → Enough room (suc g) f d → Enough room g f d
enough_fewer room g f d e = elim e [
  | inl h ↦ inl (omega arith)
  | inr h ↦ inr h
]

-- where a thing may be opened the reader can open it
pub enough_any : (room : ℕ → Room) (g d : ℕ) (t : List Tok) → room d t → Enough room (suc g) zero d → ⊥
enough_any room g d t some e = elim e [
  | inl h ↦ omega arith
  | inr h ↦ h t (subst (λ n. room n t) (sym (add-zero d)) some)
]

-- one thing more is open, which was allowed
pub enough_below : (room : ℕ → Room) (g f d : ℕ) (t : List Tok) → room d t → Enough room (suc g) f d → Enough room g (f - 1) (suc d)
enough_below room g zero d t some e = absurd (enough_any room g d t some e)
enough_below room g (suc f) d t some e = let one_less : f ≡ suc f - 1 = omega arith in subst (λ n. Enough room g n (suc d)) one_less (enough_inside room g f d e)

-- ---- types

module _ (may_open : ℕ → Bool) (inner : Reader Ty) (room : Room) (Inner : Spelling Ty) (allows : (t : List Tok) → room t → may_open (length t) ≡ true)
    (complete : (t : List Tok) → room t → IsComplete Anything inner Inner) (shrinks : Shrinks Inner) (begins : Begins begins_type Inner) where
  set_type-complete : {x : Ty} {t r s q : List Tok} → Opens m.OpenBracket room t r → Inner x r s → At m.CloseBracket s q → set_type may_open inner t ≡ Ok (ty.Set x, q)
  unfolding set_type
  set_type-complete {x} o a c = rw (opening_is may_open allows o, complete _ (room-Opens o) _ _ _ a tt, expect_is c) refl

  tuple_type-complete : {x : Ty} {xs : List Ty} {t r s q : List Tok} → ((y : Ty) (i j : List Tok) → Inner y i j → Anything j → inner i ≡ Ok (y, j))
      → Inner x t r → At m.Comma r s → Closed m.CloseParen Inner xs s q → tuple_type may_open inner t ≡ Ok (ty.Tuple (x ∷ xs), q)
  unfolding tuple_type
  tuple_type-complete {x} {xs} reads a h l =
      rw (reads _ _ _ a tt, expect_is h, closed-complete reads shrinks m.CloseParen begins_type begins refl refl (λ i j c. tt) (λ i j c. tt) (x ∷ []) xs _ _ l) refl

  at_type : {k : Mark} (i : List Tok) {o : Reading Ty} → mark i ≡ Some k → type_by may_open inner (Some k) i ≡ o → type_in may_open inner i ≡ o
  unfolding type_in
  at_type {k} i is e = ap (λ z. type_by may_open inner z i) is ∙ e

  pub type_in-complete : IsComplete Anything (type_in may_open inner) (IsType room Inner)
  type_in-complete _ i r (IsType.int h) s = at_type i (mark-At h) (past_is (pure ty.Int) h)
  type_in-complete _ i r (IsType.bool h) s = at_type i (mark-At h) (past_is (pure ty.Bool) h)
  type_in-complete _ i r (IsType.str h) s = at_type i (mark-At h) (past_is (pure ty.Text) h)
  type_in-complete _ i r (IsType.proc h) s = at_type i (mark-At h) (past_is (pure ty.Proc) h)
  type_in-complete _ i r (IsType.set h o a c) s = at_type i (mark-At h) (past_is (set_type may_open inner) h ∙ set_type-complete o a c)
  type_in-complete _ i r (IsType.tuple o a h l) s = at_type i (mark-Opens o) (rw (opens_is may_open allows o) (tuple_type-complete (complete _ (room-Opens o)) a h l))

module _ (limit : Limit) (room : ℕ → Room) (allows : (d : ℕ) (t : List Tok) → room d t → limit d (length t) ≡ true) where
  -- a type after a token that opened the thing it stands in
  pub types-complete : (g f d : ℕ) → Enough room g f d → (t : List Tok) → room d t → IsComplete Anything (types limit f (suc d)) (TypeIn room g (suc d))
  unfolding types TypeIn
  types-complete zero f d e t some x i r h s = absurd h
  types-complete (suc g) zero d e t some x i r h s = absurd (enough_any room g d t some e)
  types-complete (suc g) (suc f) d e t some x i r h s =
      type_in-complete (limit (suc d)) (types limit f (suc (suc d))) (room (suc d)) (TypeIn room g (suc (suc d))) (allows (suc d))
      (types-complete g f (suc d) (enough_inside room g f d e)) (TypeIn-shrinks room g (suc (suc d))) (TypeIn-begins room g (suc (suc d))) x i r h s

  -- a type where d things are open
  pub type_there-complete : (g f d : ℕ) → Enough room g f d → IsComplete Anything (type_in (limit d) (types limit f (suc d))) (IsType (room d) (TypeIn room g (suc d)))
  type_there-complete g f d e =
      type_in-complete (limit d) (types limit f (suc d)) (room d) (TypeIn room g (suc d)) (allows d) (types-complete g f d e) (TypeIn-shrinks room g (suc d)) (TypeIn-begins room g (suc d))

  pub type_at-complete : (g f d : ℕ) → Enough room g f d → IsComplete Anything (type_in (limit d) (types limit f (suc d))) (TypeIn room g d)
  unfolding TypeIn
  type_at-complete zero f d e x i r h s = absurd h
  type_at-complete (suc g) f d e x i r h s = type_there-complete g f d (enough_fewer room g f d e) x i r h s
