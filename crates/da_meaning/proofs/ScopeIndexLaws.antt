-- The map of names in scope and the list of them say the same.
use Rattle.std.specs.Prelude.{◌≡◌, refl, ℕ, ◌-◌, Bool, true, false, if◌then◌else◌, List, [], ◌∷◌, ◌++◌, map, reverse, length, take, drop, Option, Some, option_map, bytes_eq}
use Rattle.std.specs.BTreeMap.{BTreeMap, UpdatesBy}
use Rattle.std.specs.Borrow.{Bor}
use Rattle.std.specs.Cmp.Lexicographic.{slice_cmp}
use Rattle.std.specs.Option.{option_or}
use Rattle.std.specs.Ordering.{nat_cmp}
use Rattle.std.proofs.Common.{◌∙◌, sym, ap, arith, take-append-drop}
use Rattle.std.proofs.lemmas.List.{length-drop, map-append, reverse-append, take_all}
use Rattle.std.proofs.lemmas.Map.Text.{btree_map_updates_str}
use Rattle.da_lang.specs.ExprMeaning as means
use Rattle.da_lang.specs.ExprMeaning.{width}
use Rattle.da_lang.specs.Scopes.{Scope, look}
use Rattle.da_meaning.specs.declared.scope.Meaning.{Meaning}
use Rattle.da_meaning.specs.declared.scope.Named.{Named}
use Rattle.da_meaning.specs.MeaningView.{meaning_of}
use Rattle.da_meaning.specs.ScopeIndex.{IsKept, meaning_in}
use Rattle.da_meaning.specs.SlotScope.{entry, shown}

-- a name is put into the map
mapped : (b : Bool) (m : Meaning) (o : Option Meaning) → option_map meaning_of (if b then Some m else o) ≡ (if b then Some (meaning_of m) else option_map meaning_of o)
mapped true m o = refl
mapped false m o = refl

pub meaning_set : (old new : BTreeMap (Bor (List ℕ)) Meaning) (name : List ℕ) (m : Meaning) → UpdatesBy (λ x y. slice_cmp nat_cmp x.now y.now) (λ k. slice_cmp nat_cmp name k.now) old new (Some m)
    → (q : List ℕ) → meaning_in new q ≡ (if bytes_eq name q then Some (meaning_of m) else meaning_in old q)
meaning_set old new name m updates q = ap (option_map meaning_of) (btree_map_updates_str name old new (Some m) updates q) ∙ mapped (bytes_eq name q) m _

-- the names after those of the map are gone through
look-append : {A : Type 0} (s t : Scope A) (q : List ℕ) → look (s ++ t) q ≡ option_or (look s q) (look t q)
look-append [] t q = refl
look-append (e ∷ s) t q = ap (λ o. if bytes_eq e.0 q then Some e.1 else o) (look-append s t q) ∙ either (bytes_eq e.0 q) e.1 (look s q) (look t q)
  where
    either : {A : Type 0} (b : Bool) (x : A) (o p : Option A) → (if b then Some x else option_or o p) ≡ option_or (if b then Some x else o) p
    either true x o p = refl
    either false x o p = refl

shown-append : (front names : List Named) → shown (front ++ names) ≡ shown names ++ shown front
shown-append front names = ap (map entry) (reverse-append front names) ∙ map-append entry (reverse names) (reverse front)

pub after_index : (slice names : List Named) (indexed : ℕ) → slice ≡ names → take (length slice - indexed) (drop indexed slice) ≡ drop indexed names
after_index slice names indexed is = take_all (length slice - indexed) (drop indexed slice) (omega (arith, length-drop indexed slice)) ∙ ap (drop indexed) is

pub looked : (names : List Named) (parts : ℕ) (index : BTreeMap (Bor (List ℕ)) Meaning) (indexed : ℕ) (inner : List Named) (q : List ℕ) (outer found : Option means.Meaning) → IsKept names parts index indexed
    → inner ≡ drop indexed names → outer ≡ meaning_in index q → found ≡ option_or (look (shown inner) q) outer → found ≡ look (shown names) q
looked names parts index indexed inner q outer found kept behind map_says through =
    let front = take indexed names in
    through ∙ ap (option_or (look (shown inner) q)) (map_says ∙ kept.same q) ∙ sym (look-append (shown inner) (shown front) q)
    ∙ ap (λ s. look s q) (sym (shown-append front inner)) ∙ ap (λ ns. look (shown (front ++ ns)) q) behind ∙ ap (λ ns. look (shown ns) q) (take-append-drop indexed names)
