-- A live pattern reads neither slots nor the row: a match puts what the element gives after the row. What a pattern
-- matches, its live pattern matches too.
use Rattle.std.specs.Prelude.{◌≡◌, ℕ, Bool, true, false, ◌||◌, if◌then◌else◌, List, [], ◌∷◌, ◌++◌, map, Option, Some, None, refl}
use Rattle.std.specs.List.{AllByRecursion, list_any}
use Rattle.std.proofs.Common.{ap, sym, ◌∙◌, append_assoc, append-nil}
use Rattle.da_values.specs.declared.val.Val.{Val, out-Val}
use Rattle.da_values.specs.declared.val.Val.TheVariants as val
use Rattle.da_values.specs.declared.val.Val.TheOpen as layer
use Rattle.da_values.specs.declared.val.Val.TheOpen.{Val-F}
use Rattle.da_values.specs.Value.{val_of}
use Rattle.da_lang.specs.declared.query.Pattern.{Pattern}
use Rattle.da_lang.specs.declared.query.Pattern.TheVariants as pattern
use Rattle.da_lang.specs.declared.query.Term.{Term}
pub use Rattle.da_lang.specs.Caught.{after_row_of, caught, caught_entry}
use Rattle.da_lang.specs.Live.{varies, live_pattern}
use Rattle.da_lang.specs.Matching.{Row, Match, is_same, and_then, where_true, match_parts, match_tuple, matched, matched_entry, term_value}
use Rattle.da_lang.specs.World.{Data}
use Rattle.da_lang.proofs.LiveLaws.{varies-Slot, varies-Part, varies-Tuple, live-Any, live-Bind, live-Const, live-Me, live-Equal, live-Tuple}
use Rattle.da_lang.proofs.MatchingLaws.{term-Const, term-Me, term-Tuple, term-Foreign, match-Any, match-Bind, match-Const, match-Me, match-Equal, match-Tuple}
use Rattle.da_lang.proofs.TermInduction.{term_induction, pattern_induction}

-- Terms that do not vary.

module _ (me : ℕ) where
  abbrev Steady : Term → Type 0
  Steady t = varies t ≡ false → (slots others : List Val) (row other : Row) → term_value me slots row t ≡ term_value me others other t

  steady_parts : (parts : List Term) → AllByRecursion Steady parts → list_any varies parts ≡ false → (slots others : List Val) (row other : Row) → map (term_value me slots row) parts ≡ map (term_value me others other) parts
  steady_parts [] each none slots others row other = refl
  steady_parts (t ∷ ts) each none slots others row other = go (varies t) refl none (each.0) (steady_parts ts each.1)
    where
      go : (b : Bool) → varies t ≡ b → (b || list_any varies ts) ≡ false → Steady t → (list_any varies ts ≡ false → (slots others : List Val) (row other : Row) → map (term_value me slots row) ts ≡ map (term_value me others other) ts) → map (term_value me slots row) (t ∷ ts) ≡ map (term_value me others other) (t ∷ ts)
      go true is wrong one rest = absurd (cc)
      go false is none_left one rest =
          ap (λ z. z ∷ map (term_value me slots row) ts) (one is slots others row other) ∙ ap (λ zs. term_value me others other t ∷ zs) (rest none_left slots others row other)

  pub steady : (t : Term) → Steady t
  steady =
      term_induction Steady
      (λ c still slots others row other. term-Const me slots row c ∙ sym (term-Const me others other c))
      (λ still slots others row other. term-Me me slots row ∙ sym (term-Me me others other))
      (λ s still slots others row other. absurd (cc (varies-Slot s)))
      (λ k still slots others row other. absurd (cc (varies-Part k)))
      (λ parts each still slots others row other. term-Tuple me slots row parts ∙ ap val.Tuple (steady_parts parts each (sym (varies-Tuple parts) ∙ still) slots others row other) ∙ sym (term-Tuple me others other parts))
      (λ still slots others row other. term-Foreign me slots row ∙ sym (term-Foreign me others other))

after_twice : (a b : Row) (found : Option Row) → after_row_of a (after_row_of b found) ≡ after_row_of (a ++ b) found
after_twice a b None = refl
after_twice a b (Some found) = ap Some (sym (append_assoc a b found))

after_where : (b : Bool) (row : Row) → where_true b row ≡ after_row_of row (where_true b [])
after_where true row = ap Some (sym (append-nil row))
after_where false row = refl

module _ (me : ℕ) where
  abbrev pub Catches : Pattern → Type 0
  Catches p = (slots : List Val) (x : Val) (row : Row) → matched me slots (live_pattern p) x row ≡ after_row_of row (caught me p x)

  abbrev pub live_parts : List Val → List Pattern → List Match
  live_parts slots ps = map (matched me slots) (map live_pattern ps)

  first_caught : (found : Option Row) (row : Row) (slots : List Val) (ps : List Pattern) (xs : List Val) → ((slots : List Val) (row : Row) → match_parts (live_parts slots ps) xs row ≡ after_row_of row (match_parts (live_parts [] ps) xs [])) → and_then (after_row_of row found) (match_parts (live_parts slots ps) xs) ≡ after_row_of row (and_then found (match_parts (live_parts [] ps) xs))
  first_caught None row slots ps xs others = refl
  first_caught (Some l) row slots ps xs others =
      others slots (row ++ l) ∙ sym (after_twice row l (match_parts (live_parts [] ps) xs [])) ∙ ap (after_row_of row) (sym (others [] l))

  pub parts_caught : (ps : List Pattern) → AllByRecursion Catches ps → (xs : List Val) (slots : List Val) (row : Row) → match_parts (live_parts slots ps) xs row ≡ after_row_of row (match_parts (live_parts [] ps) xs [])
  parts_caught [] each [] slots row = ap Some (sym (append-nil row))
  parts_caught [] each (x ∷ xs) slots row = refl
  parts_caught (p ∷ ps) each [] slots row = refl
  parts_caught (p ∷ ps) each (x ∷ xs) slots row =
      ap (λ z. and_then z (match_parts (live_parts slots ps) xs)) (each.0 slots x row)
      ∙ first_caught (caught me p x) row slots ps xs (λ others r. parts_caught ps each.1 xs others r)

  tuple_caught : (ps : List Pattern) → AllByRecursion Catches ps → (x : Val-F Val) (slots : List Val) (row : Row) → match_tuple (live_parts slots ps) x row ≡ after_row_of row (match_tuple (live_parts [] ps) x [])
  tuple_caught ps each (layer.Tuple xs) slots row = parts_caught ps each xs slots row
  tuple_caught ps each (layer.Int i) slots row = refl
  tuple_caught ps each (layer.Bool b) slots row = refl
  tuple_caught ps each (layer.Text t) slots row = refl
  tuple_caught ps each (layer.Proc p) slots row = refl
  tuple_caught ps each (layer.Set xs) slots row = refl

  -- from what the live pattern is
  caught_as : (p q : Pattern) → live_pattern p ≡ q → ((slots : List Val) (x : Val) (row : Row) → matched me slots q x row ≡ after_row_of row (matched me [] q x [])) → Catches p
  caught_as p q is given slots x row = ap (λ z. matched me slots z x row) is ∙ given slots x row ∙ ap (λ z. after_row_of row (matched me [] z x [])) (sym is)

  bind_caught : (slots : List Val) (x : Val) (row : Row) → matched me slots pattern.Bind x row ≡ after_row_of row (matched me [] pattern.Bind x [])
  bind_caught slots x row = match-Bind me slots x row ∙ ap (after_row_of row) (sym (match-Bind me [] x []))

  equal_caught : (t : Term) (b : Bool) → varies t ≡ b → (slots : List Val) (x : Val) (row : Row) → matched me slots (if b then pattern.Bind else pattern.Equal t) x row ≡ after_row_of row (matched me [] (if b then pattern.Bind else pattern.Equal t) x [])
  equal_caught t true is slots x row = bind_caught slots x row
  equal_caught t false is slots x row =
      match-Equal me slots x row t ∙ ap (λ z. where_true (is_same x z) row) (steady me t is slots [] row []) ∙ after_where (is_same x (term_value me [] [] t)) row ∙ ap (after_row_of row) (sym (match-Equal me [] x [] t))

  pub match_live : (p : Pattern) → Catches p
  match_live =
      pattern_induction Catches
      (caught_as pattern.Any pattern.Any live-Any (λ slots x row. match-Any me slots x row ∙ ap Some (sym (append-nil row)) ∙ ap (after_row_of row) (sym (match-Any me [] x []))))
      (caught_as pattern.Bind pattern.Bind live-Bind bind_caught)
      (λ c. caught_as (pattern.Const c) (pattern.Const c) (live-Const c) (λ slots x row. match-Const me slots x row c ∙ after_where (is_same x (val_of c)) row ∙ ap (after_row_of row) (sym (match-Const me [] x [] c))))
      (caught_as pattern.Me pattern.Me live-Me (λ slots x row. match-Me me slots x row ∙ after_where (is_same x (val.Proc me)) row ∙ ap (after_row_of row) (sym (match-Me me [] x []))))
      (λ t. caught_as (pattern.Equal t) (if varies t then pattern.Bind else pattern.Equal t) (live-Equal t) (λ slots x row. equal_caught t (varies t) refl slots x row))
      (λ ps each. caught_as (pattern.Tuple ps) (pattern.Tuple (map live_pattern ps)) (live-Tuple ps) (λ slots x row. match-Tuple me slots x row (map live_pattern ps) ∙ tuple_caught ps each (out-Val x) slots row ∙ ap (after_row_of row) (sym (match-Tuple me [] x [] (map live_pattern ps)))))

  -- What a pattern matches, in any row and slots, its live pattern catches.

  abbrev Wider : Pattern → Type 0
  Wider p = (slots : List Val) (x : Val) (row r : Row) → matched me slots p x row ≡ Some r → (l : Row) × (caught me p x ≡ Some l)

  found_where : (b : Bool) (row r : Row) → where_true b row ≡ Some r → where_true b [] ≡ Some []
  found_where true row r e = refl
  found_where false row r e = absurd (cc)

  pub all_catch : (ps : List Pattern) → AllByRecursion Catches ps
  all_catch [] = tt
  all_catch (p ∷ ps) = (match_live p, all_catch ps)

  both_wider : (found : Option Row) (others : Row → Option Row) (r : Row) → and_then found others ≡ Some r → (s : Row) × (found ≡ Some s) × (others s ≡ Some r)
  both_wider None others r e = absurd (cc)
  both_wider (Some s) others r e = (s, refl, e)

  parts_wider : (ps : List Pattern) → AllByRecursion Wider ps → (slots xs : List Val) (row r : Row) → match_parts (map (matched me slots) ps) xs row ≡ Some r → (l : Row) × (match_parts (live_parts [] ps) xs [] ≡ Some l)
  parts_wider [] each slots [] row r e = ([], refl)
  parts_wider [] each slots (x ∷ xs) row r e = absurd (cc)
  parts_wider (p ∷ ps) each slots [] row r e = absurd (cc)
  parts_wider (p ∷ ps) each slots (x ∷ xs) row r e =
      let (s, first_found, others_found) = both_wider (matched me slots p x row) (match_parts (map (matched me slots) ps) xs) r e in
      let (l, caught_first) = each.0 slots x row s first_found in
      let (k, caught_others) = parts_wider ps each.1 slots xs s r others_found in
      (l ++ k, ap (λ z. and_then z (match_parts (live_parts [] ps) xs)) caught_first ∙ parts_caught ps (all_catch ps) xs [] l ∙ ap (after_row_of l) caught_others)

  tuple_wider : (ps : List Pattern) → AllByRecursion Wider ps → (slots : List Val) (x : Val-F Val) (row r : Row) → match_tuple (map (matched me slots) ps) x row ≡ Some r → (l : Row) × (match_tuple (live_parts [] ps) x [] ≡ Some l)
  tuple_wider ps each slots (layer.Tuple xs) row r e = parts_wider ps each slots xs row r e
  tuple_wider ps each slots (layer.Int i) row r e = absurd (cc)
  tuple_wider ps each slots (layer.Bool b) row r e = absurd (cc)
  tuple_wider ps each slots (layer.Text t) row r e = absurd (cc)
  tuple_wider ps each slots (layer.Proc p) row r e = absurd (cc)
  tuple_wider ps each slots (layer.Set xs) row r e = absurd (cc)

  -- from what the live pattern is
  wider_as : (p q : Pattern) → live_pattern p ≡ q → (x : Val) (l : Row) → matched me [] q x [] ≡ Some l → (l : Row) × (caught me p x ≡ Some l)
  wider_as p q is x l e = (l, ap (λ z. matched me [] z x []) is ∙ e)

  equal_wider : (t : Term) (b : Bool) → varies t ≡ b → (slots : List Val) (x : Val) (row r : Row) → matched me slots (pattern.Equal t) x row ≡ Some r → (l : Row) × (matched me [] (if b then pattern.Bind else pattern.Equal t) x [] ≡ Some l)
  equal_wider t true is slots x row r e = (x ∷ [], match-Bind me [] x [])
  equal_wider t false is slots x row r e =
      ([], match-Equal me [] x [] t ∙ ap (λ z. where_true (is_same x z) []) (steady me t is [] slots [] row) ∙ found_where (is_same x (term_value me slots row t)) row r (sym (match-Equal me slots x row t) ∙ e))

  pub match_is_caught : (p : Pattern) → Wider p
  match_is_caught =
      pattern_induction Wider
      (λ slots x row r e. wider_as pattern.Any pattern.Any live-Any x [] (match-Any me [] x []))
      (λ slots x row r e. wider_as pattern.Bind pattern.Bind live-Bind x (x ∷ []) (match-Bind me [] x []))
      (λ c slots x row r e. wider_as (pattern.Const c) (pattern.Const c) (live-Const c) x [] (match-Const me [] x [] c ∙ found_where _ row r (sym (match-Const me slots x row c) ∙ e)))
      (λ slots x row r e. wider_as pattern.Me pattern.Me live-Me x [] (match-Me me [] x [] ∙ found_where _ row r (sym (match-Me me slots x row) ∙ e)))
      (λ t slots x row r e. let (l, f) = equal_wider t (varies t) refl slots x row r e in wider_as (pattern.Equal t) (if varies t then pattern.Bind else pattern.Equal t) (live-Equal t) x l f)
      (λ ps each slots x row r e.
      let (l, f) = tuple_wider ps each slots (out-Val x) row r (sym (match-Tuple me slots x row ps) ∙ e) in
      wider_as (pattern.Tuple ps) (pattern.Tuple (map live_pattern ps)) (live-Tuple ps) x l (match-Tuple me [] x [] (map live_pattern ps) ∙ f))

-- The same of a message and the other process.

module _ (d : Data) (message peer : Pattern) (x : Val) (p : ℕ) where
  then_caught : (found : Option Row) (row : Row) → and_then (after_row_of row found) (matched d.me d.slots (live_pattern peer) (val.Proc p)) ≡ after_row_of row (and_then found (matched d.me [] (live_pattern peer) (val.Proc p)))
  then_caught None row = refl
  then_caught (Some l) row =
      match_live d.me peer d.slots (val.Proc p) (row ++ l) ∙ sym (after_twice row l (caught d.me peer (val.Proc p))) ∙ ap (after_row_of row) (sym (match_live d.me peer [] (val.Proc p) l))

  pub entry_live : (row : Row) → matched_entry d (live_pattern message) (live_pattern peer) x p row ≡ after_row_of row (caught_entry d.me message peer x p)
  entry_live row =
      ap (λ z. and_then z (matched d.me d.slots (live_pattern peer) (val.Proc p))) (match_live d.me message d.slots x row) ∙ then_caught (caught d.me message x) row

  pub entry_caught : (row r : Row) → matched_entry d message peer x p row ≡ Some r → (l : Row) × (caught_entry d.me message peer x p ≡ Some l)
  entry_caught row r e =
      let (s, message_found, peer_found) = both_wider d.me (matched d.me d.slots message x row) (matched d.me d.slots peer (val.Proc p)) r e in
      let (l, message_caught) = match_is_caught d.me message d.slots x row s message_found in
      let (k, peer_caught) = match_is_caught d.me peer d.slots (val.Proc p) s r peer_found in
      (l ++ k, ap (λ z. and_then z (matched d.me [] (live_pattern peer) (val.Proc p))) message_caught ∙ match_live d.me peer [] (val.Proc p) l ∙ ap (after_row_of l) peer_caught)
