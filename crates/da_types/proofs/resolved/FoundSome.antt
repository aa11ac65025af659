-- The query whose row a header binds is the `some` that its condition is, and new slots differ.
use Rattle.std.specs.Prelude.{◌≡◌, refl, ℕ, zero, suc, ◌+◌, ◌<◌, ◌≤◌, Bool, true, false, if◌then◌else◌, List, [], ◌∷◌, ◌++◌, map, length, Option, Some, None, option_map, slice_get}
use Rattle.std.specs.List.{range_with_len}
use Rattle.std.proofs.Common.{◌∙◌, ap, sym, subst, inl, inr, arith}
use Rattle.da_values.specs.Sets.{Has, Distinct}
use Rattle.da_lang.specs.declared.query.Query.{Query}
use Rattle.da_lang.specs.declared.query.Query.TheVariants as qu
use Rattle.da_lang.specs.declared.tree.ChainTree.{ChainTree}
use Rattle.da_lang.specs.declared.tree.Expr.{Expr, out-Expr, roll-Expr, roll-out-Expr}
use Rattle.da_lang.specs.declared.tree.Expr.TheVariants as ex
use Rattle.da_lang.specs.declared.tree.Expr.TheOpen.{Expr-F}
use Rattle.da_lang.specs.declared.tree.GenTree.{GenTree}
use Rattle.da_lang.specs.declared.tree.PatternTree.{PatternTree}
use Rattle.da_lang.specs.declared.tree.PeerTree.{PeerTree}
use Rattle.da_lang.specs.BodyMeaning.{found_number, finds_in}
use Rattle.da_lang.specs.ExprMeaning.{Meaning, Meant, Tables, cond_after, gens_in, generator, meant, quantified}
use Rattle.da_lang.specs.Scopes.{Scope}
use Rattle.da_lang.proofs.MeantAt.{meant-Quant}
use Rattle.da_types.specs.Sound.{IsSome}
use Rattle.da_types.proofs.resolved.ConstantsFill.{Grows}

-- numbers from one on
range_in : (a k n : ℕ) → Has (range_with_len a k) n → (a ≤ n) × (n < a + k)
range_in a zero n h = absurd h
range_in a (suc k) n (inl is) = (omega (arith, is), omega (arith, is))
range_in a (suc k) n (inr h) = let (low, high) = range_in (a + 1) k n h in (omega (arith, low), omega (arith, high))

pub range_distinct : (a k : ℕ) → Distinct (range_with_len a k)
range_distinct a zero = tt
range_distinct a (suc k) = ((λ h. let (low, high) = range_in (a + 1) k a h in absurd (omega (arith, low))), range_distinct (a + 1) k)

-- what stands after other queries
got_after : (xs : List Query) (q : Query) (more : List Query) → slice_get (xs ++ q ∷ [] ++ more) (length xs) ≡ Some q
got_after [] q more = refl
got_after (x ∷ xs) q more = got_after xs q more

module _ (qs : List Query) (scope : Scope Meaning) (tables : Tables) where
  abbrev Finds : Expr → Type 0
  Finds x = Grows ((meant x).outside scope tables).1.queries qs → IsSome qs (suc (length tables.queries))

  some_finds : (gens : List GenTree) (cond : Option Expr) → Finds (ex.Quant false gens cond)
  some_finds gens cond last =
      let m : Meant = quantified false (map generator gens) (option_map meant cond) in
      let grown : Grows (m.outside scope tables).1.queries qs = subst (λ (z : Meant). Grows (z.outside scope tables).1.queries qs) (meant-Quant false gens cond) last in
      record {
        gens = gens_in (map generator gens) scope;
        cond = cond_after (map generator gens) (option_map meant cond) scope;
        is = ap (λ z. slice_get z (length tables.queries)) grown.is ∙ got_after tables.queries (qu.Quant false (gens_in (map generator gens) scope) (cond_after (map generator gens) (option_map meant cond) scope)) grown.more;
      }

  layer_finds : (y : Expr-F Expr PatternTree PeerTree ChainTree GenTree) → finds_in y ≡ true → Finds (roll-Expr y)
  layer_finds (Expr-F.Quant false gens cond) e = subst Finds (sym (ex.rolls-Quant false gens cond)) (some_finds gens cond)
  layer_finds (Expr-F.Quant true gens cond) e = absurd (cc)
  layer_finds _ e = absurd (cc)

  expr_finds : (x : Expr) → finds_in (out-Expr x) ≡ true → Finds x
  expr_finds x e = subst Finds (roll-out-Expr x) (layer_finds (out-Expr x) e)

pub finds_some : (qs : List Query) (x : Expr) (scope : Scope Meaning) (tables : Tables) → Grows ((meant x).outside scope tables).1.queries qs → (n : ℕ) → found_number x tables ≡ Some n → IsSome qs n
finds_some qs x scope tables last n is = go (finds_in (out-Expr x)) refl is
  where
    go : (b : Bool) → finds_in (out-Expr x) ≡ b → (if b then Some (suc (length tables.queries)) else None) ≡ Some n → IsSome qs n
    go true e same = let number : suc (length tables.queries) ≡ n = cc in subst (IsSome qs) number (expr_finds qs scope tables x e last)
    go false e same = absurd (cc)
