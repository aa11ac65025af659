-- The printed tokens of a type spell it again, with no more nesting.
use Rattle.std.proofs.Common.{◌≡◌, ℕ, zero, suc, List, ◌∷◌, map, refl}
use Rattle.da_values.specs.declared.token.Mark.{Mark}
use Rattle.da_values.specs.declared.token.Mark.TheVariants as m
use Rattle.da_values.specs.Marks.{Tok}
use Rattle.da_lang.specs.declared.ty.Ty.{Ty}
use Rattle.da_lang.specs.Spelling as g
use Rattle.da_lang.specs.Spelling.{Spelling, Room, Opens}
use Rattle.da_lang.specs.TypeGrammar as t
use Rattle.da_lang.specs.TypeGrammar.{IsType, TypeIn}
use Rattle.da_unparse.specs.Expressions.{type_pieces}
use Rattle.da_unparse.proofs.AgainTools.{putting, put-tupled, Again, closed-again}
use Rattle.da_unparse.proofs.ShownAt.{type-Int, type-Bool, type-Text, type-Proc, type-Tuple, type-Set}

-- a token opens one thing more where some other one did, if the rule is on the depth alone
pub opens-again : {X : Type 0} {k l : Mark} {i r : List Tok} → Opens k (λ t. X) i r → (u : Tok) (s : List Tok) → u.mark ≡ l → Opens l (λ t. X) (u ∷ s) s
opens-again (g.Opens.opens some h) u s is = g.Opens.opens some (g.At.at is)

module _ (n : ℕ) (X : Type 0) {Inner : Spelling Ty} (inner : Again n Inner Inner type_pieces) where
  is_type-again : Again n (IsType (λ t. X) Inner) (IsType (λ t. X) Inner) type_pieces
  is_type-again _ i r (t.IsType.int h) s = simp (type-Int, putting) (t.IsType.int (g.At.at refl))
  is_type-again _ i r (t.IsType.bool h) s = simp (type-Bool, putting) (t.IsType.bool (g.At.at refl))
  is_type-again _ i r (t.IsType.str h) s = simp (type-Text, putting) (t.IsType.str (g.At.at refl))
  is_type-again _ i r (t.IsType.proc h) s = simp (type-Proc, putting) (t.IsType.proc (g.At.at refl))
  is_type-again _ i r (t.IsType.set {x} h o a e) s = simp (type-Set x, putting) (t.IsType.set (g.At.at refl) (opens-again o _ _ refl) (inner x _ _ a _) (g.At.at refl))
  is_type-again _ i r (t.IsType.tuple {x} {xs} o a c l) s =
      rw (type-Tuple (x ∷ xs), put-tupled n (type_pieces x) (map type_pieces xs) s)
      (t.IsType.tuple (opens-again o _ _ refl) (inner x _ _ a _) (g.At.at refl) (closed-again n type_pieces inner m.CloseParen _ xs _ _ l s))

pub type-again : (R : ℕ → Type 0) (n f d : ℕ) → Again n (TypeIn (λ d t. R d) f d) (TypeIn (λ d t. R d) f d) type_pieces
unfolding TypeIn
type-again R n zero d x i r h s = absurd h
type-again R n (suc f) d x i r h s = is_type-again n (R d) (type-again R n f (suc d)) x i r h s
