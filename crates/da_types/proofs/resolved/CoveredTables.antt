-- Each slot that was declared without a type has one in the end, and each numbered query has a type: kept where tables grow.
use Rattle.std.specs.Prelude.{◌≡◌, refl, ℕ, suc, ◌+◌, true, Bool, List, [], ◌∷◌, ◌++◌, map, length, Option, Some, None, is_some, slice_get}
use Rattle.std.specs.List.{AllByRecursion, list_all, range_with_len}
use Rattle.std.proofs.Common.{◌∙◌, ap, sym, subst, arith, append_assoc, append-nil}
use Rattle.std.proofs.lemmas.Bool.{and_from}
use Rattle.da_lang.specs.declared.query.Query.{Query}
use Rattle.da_lang.specs.declared.tree.MessageDecl.{MessageDecl}
use Rattle.da_lang.specs.declared.ty.Ty.{Ty}
use Rattle.da_lang.specs.ExprMeaning.{Tables}
use Rattle.da_lang.specs.QueryTypes.{type_at, query_type}
use Rattle.da_lang.specs.Typing.{Slots, known}
use Rattle.da_lang.specs.World.{at_number}

-- of each member, with its place counted from 0
abbrev pub Each : {A : Type 0} → (ℕ → A → Type 0) → List A → Type 0
Each P [] = Unit {0}
Each P (x ∷ xs) = P 0 x × Each (λ n. P (suc n)) xs

pub each_one : {A : Type 0} (P : ℕ → A → Type 0) (xs : List A) (x : A) → Each P xs → P (length xs) x → Each P (xs ++ x ∷ [])
each_one P [] x each one = (one, tt)
each_one P (y ∷ xs) x each one = (each.0, each_one (λ n. P (suc n)) xs x each.1 one)

pub each_of : {A B : Type 0} (P : ℕ → A → Type 0) (f : B → A) (ys : List B) → ((n : ℕ) (y : B) → P n (f y)) → Each P (map f ys)
each_of P f [] all = tt
each_of P f (y ∷ ys) all = (all 0 y, each_of (λ n. P (suc n)) f ys (λ n. all (suc n)))

pub each_more : {A B : Type 0} (P : ℕ → A → Type 0) (f : B → A) (xs : List A) (ys : List B) → Each P xs → ((n : ℕ) (y : B) → P n (f y)) → Each P (xs ++ map f ys)
each_more P f [] ys each all = each_of P f ys all
each_more P f (x ∷ xs) ys each all = (each.0, each_more (λ n. P (suc n)) f xs ys each.1 (λ n. all (suc n)))

-- all members, where what is asked of each is asked of it at its place
pub each_there : {A : Type 0} (test : A → Bool) (look : ℕ → Option A) (xs : List A) → ((n : ℕ) → look n ≡ slice_get xs n) → Each (λ n x. look n ≡ Some x → test x ≡ true) xs → list_all test xs ≡ true
each_there test look [] same each = refl
each_there test look (x ∷ xs) same each = and_from (test x) (list_all test xs) (each.0 (same 0)) (each_there test (λ n. look (suc n)) xs (λ n. same (suc n)) each.1)

length_more : {A : Type 0} (xs : List A) (x : A) → length (xs ++ x ∷ []) ≡ suc (length xs)
length_more [] x = refl
length_more (y ∷ xs) x = ap suc (length_more xs x)

after : (a : ℕ) → a + 1 ≡ suc a
after a = omega arith

module _ (messages : List MessageDecl) (queries : List Query) (slots : Slots) where
  abbrev pub IsKnown : ℕ → Type 0
  IsKnown slot = is_some (type_at slots slot) ≡ true

  abbrev pub SlotDone : ℕ → Option Ty → Type 0
  SlotDone n declared = declared ≡ None → IsKnown (suc n)

  abbrev pub QueryDone : ℕ → Query → Type 0
  QueryDone n q = at_number queries (suc n) ≡ Some q → is_some (query_type (known messages queries slots) q) ≡ true

  pub record Done (tables : Tables) : Type 0 where
    pub of_slots : Each SlotDone tables.slots
    pub of_queries : Each QueryDone tables.queries

  pub asked : (tables : Tables) (q : Query) → QueryDone (length tables.queries) q → Done tables → Done (record { slots = tables.slots; queries = tables.queries ++ q ∷ [] })
  asked tables q one d = record { of_slots = d.of_slots; of_queries = each_one QueryDone tables.queries q d.of_queries one }

  -- new slots without types
  unknown : (names : List (List ℕ)) (declared : Slots) → Each SlotDone declared → AllByRecursion IsKnown (range_with_len (suc (length declared)) (length names)) → Each SlotDone (declared ++ map (λ name. None) names)
  unknown [] declared each all = subst (Each SlotDone) (sym (append-nil declared)) each
  unknown (name ∷ names) declared each all =
      let one : Each SlotDone (declared ++ None ∷ []) = each_one SlotDone declared None each (λ e. all.0) in
      let same : suc (length declared) + 1 ≡ suc (length (declared ++ None ∷ [])) = after (suc (length declared)) ∙ ap suc (sym (length_more declared None)) in
      subst (Each SlotDone) (append_assoc declared (None ∷ []) (map (λ name. None) names)) (unknown names (declared ++ None ∷ []) one (subst (λ n. AllByRecursion IsKnown (range_with_len n (length names))) same all.1))

  pub untyped_done : (names : List (List ℕ)) (tables : Tables) → AllByRecursion IsKnown (range_with_len (suc (length tables.slots)) (length names)) → Done tables → Done (record { slots = tables.slots ++ map (λ name. None) names; queries = tables.queries })
  untyped_done names tables all d = record { of_slots = unknown names tables.slots d.of_slots all; of_queries = d.of_queries }

  -- new slots with types
  pub typed_done : {A : Type 0} (ty : A → Ty) (xs : List A) (tables : Tables) → Done tables → Done (record { slots = tables.slots ++ map (λ x. Some (ty x)) xs; queries = tables.queries })
  typed_done ty xs tables d = record { of_slots = each_more SlotDone (λ x. Some (ty x)) tables.slots xs d.of_slots (λ n x e. absurd (cc)); of_queries = d.of_queries }
