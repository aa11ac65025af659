-- Slots are noted in a list, one after the other.
use Rattle.std.specs.Prelude.{◌≡◌, ◌==◌, ◌<◌, ◌+◌, ℕ, Bool, true, false, ◌||◌, ◌&&◌, List, [], ◌∷◌, ◌++◌, get_or, length, slice_get, take, refl}
use Rattle.std.specs.List.{list_any}
use Rattle.std.proofs.Common.{ap, sym, subst, ◌∙◌, inl, inr, arith, length-append}
use Rattle.std.proofs.lemmas.Bool.{eqb-true}
use Rattle.std.proofs.lemmas.List.{take_more}
use Rattle.std.proofs.lemmas.List.Folds.{list_any-append}
use Rattle.da_lang.specs.declared.query.Cond.{Cond}
use Rattle.da_lang.specs.declared.query.Cond.TheVariants as cond
use Rattle.da_lang.specs.declared.query.Operand.{Operand}
use Rattle.da_lang.specs.declared.query.Operand.TheVariants as operand
use Rattle.da_lang.specs.declared.query.SignedOperand.{SignedOperand}
use Rattle.da_lang.specs.declared.tree.CmpOp.{CmpOp}
use Rattle.delta_rules.specs.Naming.{cond_names, operand_names, part_names}
use Rattle.da_lang.specs.declared.query.Node.{Node}
use Rattle.delta_rules.specs.Passing.{is_named}
use Rattle.delta_rules.specs.SlotUse.{Adds, AreNamed, ListsNamed, is_listed}
use Rattle.delta_rules.specs.declared.turn.Moved.{Moved}
use Rattle.delta_rules.proofs.ListPlaces.{get_longer, nothing_there, same_or_not}
use Rattle.delta_rules.proofs.NamingAt.{in-And, in-Chain, in-Cmp, in-Or}

or_nil : (b : Bool) → (b || false) ≡ b
or_nil true = refl
or_nil false = refl

or_assoc : (a b c : Bool) → ((a || b) || c) ≡ (a || (b || c))
or_assoc true b c = refl
or_assoc false b c = refl

pub adds_none : (test : ℕ → Bool) (olds : List ℕ) → ((s : ℕ) → test s ≡ false) → Adds test olds olds
adds_none test olds none s = sym (ap (λ b. is_listed s olds || b) (none s) ∙ or_nil (is_listed s olds))

pub adds_as : (test other : ℕ → Bool) (olds news : List ℕ) → ((s : ℕ) → test s ≡ other s) → Adds other olds news → Adds test olds news
adds_as test other olds news same adds s = adds s ∙ sym (ap (λ b. is_listed s olds || b) (same s))

pub adds_both : (test one two : ℕ → Bool) (olds mids news : List ℕ) → ((s : ℕ) → test s ≡ (one s || two s)) → Adds one olds mids → Adds two mids news → Adds test olds news
adds_both test one two olds mids news same first second s =
    second s ∙ ap (λ b. b || two s) (first s) ∙ or_assoc (is_listed s olds) (one s) (two s) ∙ sym (ap (λ b. is_listed s olds || b) (same s))

-- A loop over things, of which each adds slots.
module _ {A : Type 0} (f : ℕ → A → Bool) (xs : List A) where
  pub adds_start : (olds : List ℕ) → Adds (λ s. list_any (f s) (take 0 xs)) olds olds
  adds_start olds = adds_none (λ s. list_any (f s) (take 0 xs)) olds (λ s. refl)

  pub adds_more : (i : ℕ) (x : A) (olds mids news : List ℕ) → i < length xs → x ≡ get_or xs i x → Adds (λ s. list_any (f s) (take i xs)) olds mids → Adds (λ s. f s x) mids news
      → Adds (λ s. list_any (f s) (take (i + 1) xs)) olds news
  adds_more i x olds mids news inside is before adds =
      adds_both (λ s. list_any (f s) (take (i + 1) xs)) (λ s. list_any (f s) (take i xs)) (λ s. f s x) olds mids news
      (λ s.
      ap (list_any (f s)) (take_more xs i x inside ∙ ap (λ z. take i xs ++ z ∷ []) (sym is)) ∙ list_any-append (f s) (take i xs) (x ∷ [])
      ∙ ap (λ b. list_any (f s) (take i xs) || b) (or_nil (f s x))) before adds

-- A slot.

listed_again : (slots : List ℕ) (slot s : ℕ) → is_listed slot slots ≡ true → is_listed s slots ≡ (is_listed s slots || (slot == s))
listed_again slots slot s there = go (slot == s) refl
  where
    go : (b : Bool) → (slot == s) ≡ b → is_listed s slots ≡ (is_listed s slots || b)
    go true e = let found : is_listed s slots ≡ true = subst (λ z. is_listed z slots ≡ true) (eqb-true slot s e) there in found ∙ sym (ap (λ b. b || true) found)
    go false e = sym (or_nil (is_listed s slots))

pub slot_there : (slots : List ℕ) (slot : ℕ) → is_listed slot slots ≡ true → Adds (λ s. slot == s) slots slots
slot_there slots slot there s = listed_again slots slot s there

pub slot_comes : (slots news : List ℕ) (slot : ℕ) → news ≡ slots ++ slot ∷ [] → Adds (λ s. slot == s) slots news
slot_comes slots news slot is s = ap (is_listed s) is ∙ list_any-append (λ t. t == s) slots (slot ∷ []) ∙ ap (λ b. is_listed s slots || b) (or_nil (slot == s))

-- Conditions and operands, by their parts.

pub cmp_adds : (b : Cond) (op : CmpOp) (x y first second : Operand) (olds news : List ℕ) → b ≡ cond.Cmp op x y → first ≡ x → second ≡ y → Adds (λ s. operand_names s first || operand_names s second) olds news → Adds (λ s. cond_names s b) olds news
cmp_adds b op x y first second olds news is one two =
    adds_as (λ s. cond_names s b) (λ s. operand_names s first || operand_names s second) olds news
    (λ s. ap (cond_names s) is ∙ in-Cmp s op x y ∙ ap (λ a. operand_names s a || operand_names s y) (sym one) ∙ ap (λ a. operand_names s first || operand_names s a) (sym two))

pub and_adds : (b : Cond) (bs found : List Cond) (olds news : List ℕ) → b ≡ cond.And bs → found ≡ bs → Adds (λ s. list_any (cond_names s) found) olds news → Adds (λ s. cond_names s b) olds news
and_adds b bs found olds news is same = adds_as (λ s. cond_names s b) (λ s. list_any (cond_names s) found) olds news (λ s. ap (cond_names s) is ∙ in-And s bs ∙ ap (list_any (cond_names s)) (sym same))

pub or_adds : (b : Cond) (bs found : List Cond) (olds news : List ℕ) → b ≡ cond.Or bs → found ≡ bs → Adds (λ s. list_any (cond_names s) found) olds news → Adds (λ s. cond_names s b) olds news
or_adds b bs found olds news is same = adds_as (λ s. cond_names s b) (λ s. list_any (cond_names s) found) olds news (λ s. ap (cond_names s) is ∙ in-Or s bs ∙ ap (list_any (cond_names s)) (sym same))

pub chain_adds : (whole x first : Operand) (more found : List SignedOperand) (olds mids news : List ℕ) → whole ≡ operand.Chain x more → first ≡ x → found ≡ more → Adds (λ s. operand_names s first) olds mids
    → Adds (λ s. list_any (part_names s) found) mids news → Adds (λ s. operand_names s whole) olds news
chain_adds whole x first more found olds mids news is one same =
    adds_both (λ s. operand_names s whole) (λ s. operand_names s first) (λ s. list_any (part_names s) found) olds mids news
    (λ s. ap (operand_names s) is ∙ in-Chain s x more ∙ ap (λ a. operand_names s a || list_any (part_names s) more) (sym one) ∙ ap (λ zs. operand_names s first || list_any (part_names s) zs) (sym same))

-- The lists of the first nodes, one more at a time.

pub named_start : (nodes : List Node) (lists : List (List ℕ)) → lists ≡ [] → AreNamed (take 0 nodes) lists
named_start nodes lists none = record { many = ap length none; each = λ i n slots at_n at_list. absurd (nothing_there lists i slots none at_list) }

pub named_more : (nodes : List Node) (i : ℕ) (n : Node) (lists more : List (List ℕ)) (slots : List ℕ) → i < length nodes → n ≡ get_or nodes i n → more ≡ lists ++ slots ∷ [] → ListsNamed n slots → AreNamed (take i nodes) lists
    → AreNamed (take (i + 1) nodes) more
named_more nodes i n lists more slots inside is longer named so_far =
    let front : take (i + 1) nodes ≡ take i nodes ++ n ∷ [] = take_more nodes i n inside ∙ ap (λ z. take i nodes ++ z ∷ []) (sym is) in
    record {
      many = ap length longer ∙ length-append lists (slots ∷ []) ∙ omega (arith, so_far.many, length-append (take i nodes) (n ∷ []), ap length front);
      each = λ j m found at_m at_found.
          let (n_here, n_before) = get_longer (take i nodes) n m j (sym (ap (λ z. slice_get z j) front) ∙ at_m) in
          let (here, before) = get_longer lists slots found j (sym (ap (λ z. slice_get z j) longer) ∙ at_found) in
          elim (same_or_not j (length lists)) [
            | inl last ↦ subst (λ z. ListsNamed m z) (here last) (subst (λ z. ListsNamed z slots) (n_here (last ∙ so_far.many)) named)
            | inr other ↦ so_far.each j m found (n_before (λ e. other (e ∙ sym so_far.many))) (before other)
          ];
    }

-- What a node is told of a slot that it may name.
pub named_as : (m : Moved) (n k : Node) (names : List ℕ) (r : Bool) → r ≡ (m.assigned && is_listed m.slot names) → ListsNamed n names → n ≡ k → r ≡ is_named m k
named_as m n k names r is named same = is ∙ ap (λ b. m.assigned && b) (named m.slot) ∙ ap (is_named m) same
