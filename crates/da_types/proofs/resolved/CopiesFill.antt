-- The copies of methods, where each call names a method with as many parameters, and no chain of calls is longer than the
-- copies go.
use Rattle.std.specs.Prelude.{◌≡◌, refl, ℕ, zero, suc, ◌+◌, true, List, [], ◌∷◌, map, length, zip, Option, Some, None}
use Rattle.std.specs.List.{AllByRecursion, range_with_len}
use Rattle.std.proofs.Common.{◌∙◌, ap, sym, subst, arith}
use Rattle.std.proofs.lemmas.Bool.{and_parts}
use Rattle.da_lang.specs.declared.program.RExpr.{RExpr}
use Rattle.da_lang.specs.declared.query.Query.{Query}
use Rattle.da_lang.specs.declared.tree.ClassTree.{ClassTree}
use Rattle.da_lang.specs.declared.tree.MessageDecl.{MessageDecl}
use Rattle.da_lang.specs.BodyMeaning.{next, fresh, body_with, bind_arg, copy_of, copies, with_params, param_slots, class_slots}
use Rattle.da_lang.specs.ClassParts.{Body, method_of}
use Rattle.da_lang.specs.Deeds.{deeds}
use Rattle.da_lang.specs.ExprTypes.{typing}
use Rattle.da_lang.specs.QueryTypes.{slot_type}
use Rattle.da_lang.specs.Typing.{Slots, known, fits_slot, fits_params}
use Rattle.da_lang.proofs.typing.TypingAt.{kind_broken-Call}
use Rattle.da_types.proofs.resolved.BlocksFill.{Kept, CallFills, CopyFills}
use Rattle.da_types.proofs.resolved.CoveredTables.{typed_done}
use Rattle.da_types.proofs.resolved.FineExprs.{Fits}
use Rattle.da_types.proofs.resolved.MeantFills.{FineExpr}
use Rattle.da_types.proofs.resolved.StatementsFill.{AllOk, body_fills}
use Rattle.da_types.proofs.totality.KindLaws.{holds_parts}

-- a call of this name with so many arguments, where at most so many calls are within calls
abbrev pub OkWithin : ℕ → ClassTree → List ℕ → ℕ → Type 0
OkWithin zero c name n = ⊥
OkWithin (suc most) c name n = (b : Body) × (method_of c name ≡ Some b) × (length b.params ≡ n) × AllOk (OkWithin most c) (deeds b.stmts)

length_range : (a n : ℕ) → length (range_with_len a n) ≡ n
length_range a zero = refl
length_range a (suc n) = ap suc (length_range (a + 1) n)

module _ (messages : List MessageDecl) (queries : List Query) (slots : Slots) where
  args_fine : (ns : List ℕ) (args : List RExpr) → length ns ≡ length args → fits_params messages queries slots (map bind_arg (zip ns args)) ≡ true → AllByRecursion (FineExpr messages queries slots) args
  args_fine ns [] same e = tt
  args_fine [] (x ∷ args) same e = absurd (omega (arith, same))
  args_fine (n ∷ ns) (x ∷ args) same e =
      let (first, others) = and_parts (fits_slot messages queries slots n x) (fits_params messages queries slots (map bind_arg (zip ns args))) e in
      let (ty, is, h) = holds_parts (slot_type (known messages queries slots) n) (typing (known messages queries slots) queries x).fits first in
      (Fits ty h, args_fine ns args (omega (arith, same)) others)

  method_fills : (most : ℕ) (c : ClassTree) (n : ℕ) → ((name : List ℕ) (n : ℕ) → OkWithin most c name n → CopyFills messages queries slots (copies most c) name n) → (m : Option Body) (b : Body) → m ≡ Some b → length b.params ≡ n → AllOk (OkWithin most c) (deeds b.stmts)
      → CallFills messages queries slots (copy_of (copies most c) c m) n
  method_fills most c n inner None b is many within args tables same kept = absurd (cc)
  method_fills most c n inner (Some m) b is many within args tables same kept =
      let body : m ≡ b = cc in
      let params : length m.params ≡ n = ap (λ (z : Body). length z.params) body ∙ many in
      let calls : AllOk (OkWithin most c) (deeds m.stmts) = subst (λ (z : Body). AllOk (OkWithin most c) (deeds z.stmts)) (sym body) within in
      let numbers = fresh tables (length m.params) in
      let scope = param_slots m.params tables (class_slots c) in
      let items = body_with (copies most c) m.stmts scope (with_params m.params tables) in
      let k = subst (Kept messages queries slots) (kind_broken-Call messages queries slots (map bind_arg (zip numbers args)) items.0) kept in (
        args_fine numbers args (length_range (next tables) (length m.params) ∙ params ∙ sym same) k.rule,
        λ d. body_fills messages queries slots (copies most c) (OkWithin most c) inner m.stmts calls scope (with_params m.params tables) k.blocks (typed_done messages queries slots (λ p. p.ty) m.params tables d),
      )

  pub copies_fill : (most : ℕ) (c : ClassTree) (name : List ℕ) (n : ℕ) → OkWithin most c name n → CopyFills messages queries slots (copies most c) name n
  unfolding copies
  copies_fill zero c name n ok args tables same kept = absurd ok
  copies_fill (suc most) c name n ok args tables same kept =
      let (b, is, many, within) = ok in
      method_fills most c n (copies_fill most c) (method_of c name) b is many within args tables same kept
