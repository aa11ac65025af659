-- A renamed term or pattern finds in the rows of a node what the written one finds in the row of the variables.
use Rattle.std.specs.Prelude.{◌≡◌, ◌<◌, ◌≤◌, ◌+◌, ℕ, zero, suc, Bool, true, false, List, [], ◌∷◌, ◌++◌, map, length, sum, if◌then◌else◌, slice_get, Option, Some, None, option_map, refl}
use Rattle.std.specs.List.{AllByRecursion, range_with_len}
use Rattle.std.proofs.Common.{ap, sym, subst, ◌∙◌, arith, length-append, append_assoc, append-nil}
use Rattle.std.proofs.lemmas.Option.{slice_get-map, slice_get_past}
use Rattle.std.proofs.lemmas.List.Sums.{sum_by-cons}
use Rattle.da_values.specs.declared.val.Val.{Val, out-Val}
use Rattle.da_values.specs.declared.val.Val.TheVariants as val
use Rattle.da_values.specs.declared.val.Val.TheOpen as layer
use Rattle.da_values.specs.declared.val.Val.TheOpen.{Val-F}
use Rattle.da_values.specs.Value.{val_of}
use Rattle.da_lang.specs.declared.query.Pattern.{Pattern}
use Rattle.da_lang.specs.declared.query.Pattern.TheVariants as pattern
use Rattle.da_lang.specs.declared.query.RGen.{RGen}
use Rattle.da_lang.specs.declared.query.Source.{Source}
use Rattle.da_lang.specs.declared.query.Source.TheVariants as source
use Rattle.da_lang.specs.declared.query.Term.{Term}
use Rattle.da_lang.specs.declared.query.Term.TheVariants as term
use Rattle.da_lang.specs.Live.{is_history}
use Rattle.da_lang.specs.Matching.{Row, term_value, is_same, and_then, where_true, match_parts, match_tuple, matched, Candidate, Element, Message, matched_candidate}
use Rattle.da_lang.specs.World.{Data, nothing, or_nothing, at_number}
use Rattle.da_lang.proofs.LiveMatchLaws.{after_row_of}
use Rattle.da_lang.proofs.MatchingLaws.{term-Const, term-Me, term-Slot, term-Part, term-Tuple, term-Foreign, match-Any, match-Bind, match-Const, match-Me, match-Equal, match-Tuple}
use Rattle.da_lang.proofs.TermInduction.{term_induction, pattern_induction}
use Rattle.quant_norm.specs.GoodPlaces.{IsIn, AllIn}
use Rattle.quant_norm.specs.Filtering.{seen}
use Rattle.query_plan.specs.Nodes.{binds, parts_added}
use Rattle.query_plan.proofs.WidthLaws.{binds-Any, binds-Bind, binds-Const, binds-Me, binds-Equal, binds-Tuple, IsOf}
use Rattle.query_plan.specs.Plans.{part_of, known, rename, rename_pattern, rename_gen}
use Rattle.query_plan.proofs.PlansAt.{rename-Const, rename-Me, rename-Slot, rename-Part, rename-Tuple, rename-Foreign, renamed-Any, renamed-Bind, renamed-Const, renamed-Me, renamed-Equal, renamed-Tuple}

-- Members of lists one after the other.

pub get_front : {A : Type 0} (xs ys : List A) (i : ℕ) → i < length xs → slice_get (xs ++ ys) i ≡ slice_get xs i
get_front [] ys i below = absurd (omega (arith, below))
get_front (x ∷ xs) ys zero below = refl
get_front (x ∷ xs) ys (suc i) below = get_front xs ys i (omega (arith, below))

pub get_after : {A : Type 0} (xs ys : List A) (i j : ℕ) → j ≡ length xs + i → slice_get (xs ++ ys) j ≡ slice_get ys i
get_after [] ys i j e = ap (slice_get ys) (omega (arith, e))
get_after (x ∷ xs) ys i zero e = absurd (omega (arith, e))
get_after (x ∷ xs) ys i (suc j) e = get_after xs ys i j (omega (arith, e))

pub part_prefix : (row more : Row) (part : ℕ) → IsIn (length row) part → at_number (row ++ more) part ≡ at_number row part
part_prefix row more zero inside = refl
part_prefix row more (suc i) inside = get_front row more i (omega (arith, inside.1))

part_after : (row more : Row) (i part : ℕ) → part ≡ length row + suc i → at_number (row ++ more) part ≡ slice_get more i
part_after row more i zero e = absurd (omega (arith, e))
part_after row more i (suc part) e = get_after row more i part (omega (arith, e))

all_at : {A : Type 0} (P : A → Type 0) (xs : List A) (i : ℕ) (x : A) → AllByRecursion P xs → slice_get xs i ≡ Some x → P x
all_at P [] i x all e = absurd (cc)
all_at P (y ∷ ys) zero x all e = let same : y ≡ x = cc in subst P same all.0
all_at P (y ∷ ys) (suc i) x all e = all_at P ys i x all.1 e

-- Variables that are seen in longer rows.

pub wider : (vars : List ℕ) (m n : ℕ) → m ≤ n → AllIn vars m → AllIn vars n
wider [] m n less all = tt
wider (p ∷ ps) m n less all = ((all.0.0, omega (arith, all.0.1, less)), wider ps m n less all.1)

pub AllIn-append : (vars others : List ℕ) (width : ℕ) → AllIn vars width → AllIn others width → AllIn (vars ++ others) width
AllIn-append [] others width all more = more
AllIn-append (p ∷ ps) others width all more = (all.0, AllIn-append ps others width all.1 more)

pub AllIn-range : (many first width : ℕ) → 0 < first → first + many ≤ suc width → AllIn (range_with_len first many) width
AllIn-range zero first width positive less = tt
AllIn-range (suc many) first width positive less = ((positive, omega (arith, less)), AllIn-range many (first + 1) width (omega arith) (omega (arith, less)))

pub seen_front : (vars : List ℕ) (row more : Row) → AllIn vars (length row) → seen vars (row ++ more) ≡ seen vars row
seen_front [] row more all = refl
seen_front (p ∷ ps) row more all =
    ap (λ z. or_nothing z ∷ seen ps (row ++ more)) (part_prefix row more p all.0)
    ∙ ap (λ zs. or_nothing (at_number row p) ∷ zs) (seen_front ps row more all.1)

seen-append : (vars others : List ℕ) (row : Row) → seen (vars ++ others) row ≡ seen vars row ++ seen others row
seen-append [] others row = refl
seen-append (p ∷ ps) others row = ap (λ zs. or_nothing (at_number row p) ∷ zs) (seen-append ps others row)

no_part : (row : Row) (part : ℕ) → length row < part → at_number row part ≡ None
no_part row zero past = absurd (omega (arith, past))
no_part row (suc i) past = slice_get_past row i (omega (arith, past))

none_seen : (many first : ℕ) (row : Row) → length row < first → AllByRecursion (λ x. x ≡ nothing) (seen (range_with_len first many) row)
none_seen zero first row past = tt
none_seen (suc many) first row past = (ap or_nothing (no_part row first past), none_seen many (first + 1) row (omega (arith, past)))

none_got : (rest : Row) (i : ℕ) → AllByRecursion (λ x. x ≡ nothing) rest → or_nothing (slice_get rest i) ≡ nothing
none_got [] i none = refl
none_got (x ∷ rest) zero none = none.0
none_got (x ∷ rest) (suc i) none = none_got rest i none.1

got_before : (row rest : Row) (i : ℕ) → AllByRecursion (λ x. x ≡ nothing) rest → or_nothing (slice_get (row ++ rest) i) ≡ or_nothing (slice_get row i)
got_before [] rest i none = none_got rest i none
got_before (x ∷ row) rest zero none = refl
got_before (x ∷ row) rest (suc i) none = got_before row rest i none

-- exactly the parts after a row
pub seen_range : (more row : Row) (first many : ℕ) → first ≡ suc (length row) → length more ≡ many → seen (range_with_len first many) (row ++ more) ≡ more
seen_range [] row first zero e long = refl
seen_range [] row first (suc many) e long = absurd (omega (arith, long))
seen_range (x ∷ more) row first zero e long = absurd (omega (arith, long))
seen_range (x ∷ more) row first (suc many) e long =
    let here : at_number (row ++ x ∷ more) first ≡ Some x = part_after row (x ∷ more) 0 first (omega (arith, e)) in
    let longer : length (row ++ x ∷ []) ≡ length row + 1 = length-append row (x ∷ []) in
    ap (λ z. or_nothing z ∷ seen (range_with_len (first + 1) many) (row ++ x ∷ more)) here
    ∙ ap (λ zs. x ∷ zs) (ap (seen (range_with_len (first + 1) many)) (sym (append_assoc row (x ∷ []) more)) ∙ seen_range more (row ++ x ∷ []) (first + 1) many (omega (arith, longer, e)) (omega (arith, long)))

pub seen_more : (vars : List ℕ) (row more : Row) (width many : ℕ) → AllIn vars width → length row ≡ width → length more ≡ many → seen (vars ++ range_with_len (suc width) many) (row ++ more) ≡ seen vars row ++ more
seen_more vars row more width many all long further =
    seen-append vars (range_with_len (suc width) many) (row ++ more)
    ∙ ap (λ zs. zs ++ seen (range_with_len (suc width) many) (row ++ more)) (seen_front vars row more (subst (AllIn vars) (sym long) all))
    ∙ ap (λ zs. seen vars row ++ zs) (seen_range more row (suc width) many (ap suc (sym long)) further)

module _ (f : ℕ → Term) where
  -- a renamed pattern has as many variables
  abbrev AsMany : Pattern → Type 0
  AsMany p = binds (rename_pattern f p) ≡ binds p

  parts_as_many : (ps : List Pattern) → AllByRecursion AsMany ps → map binds (map (rename_pattern f) ps) ≡ map binds ps
  parts_as_many [] each = refl
  parts_as_many (p ∷ ps) each = ap (λ n. n ∷ map binds (map (rename_pattern f) ps)) each.0 ∙ ap (λ ns. binds p ∷ ns) (parts_as_many ps each.1)

  binds_renamed : (p : Pattern) → AsMany p
  binds_renamed =
      pattern_induction AsMany
      (ap binds (renamed-Any f))
      (ap binds (renamed-Bind f))
      (λ c. ap binds (renamed-Const f c))
      (ap binds (renamed-Me f))
      (λ t. ap binds (renamed-Equal f t) ∙ binds-Equal (rename f t) ∙ sym (binds-Equal t))
      (λ ps each. ap binds (renamed-Tuple f ps) ∙ binds-Tuple (map (rename_pattern f) ps) ∙ ap sum (parts_as_many ps each) ∙ sym (binds-Tuple ps))

  pub parts_renamed : (g : RGen) → parts_added (rename_gen f g) ≡ parts_added g
  parts_renamed g =
      ap (λ n. n + (if is_history g.source then binds (rename_pattern f g.peer) else 0)) (binds_renamed g.message)
      ∙ ap (λ n. binds g.message + (if is_history g.source then n else 0)) (binds_renamed g.peer)

-- Parts that are not there yet.

-- after the parts that are there, nothing is seen
pub seen_part : (more row : Row) (first many : ℕ) → first ≡ suc (length row) → length more ≤ many → (rest : Row) × (seen (range_with_len first many) (row ++ more) ≡ more ++ rest) × AllByRecursion (λ x. x ≡ nothing) rest
seen_part [] row first many e less = (seen (range_with_len first many) (row ++ []), refl, none_seen many first (row ++ []) (omega (arith, e, length-append row [])))
seen_part (x ∷ more) row first zero e less = absurd (omega (arith, less))
seen_part (x ∷ more) row first (suc many) e less =
    let here : at_number (row ++ x ∷ more) first ≡ Some x = part_after row (x ∷ more) 0 first (omega (arith, e)) in
    let longer : length (row ++ x ∷ []) ≡ length row + 1 = length-append row (x ∷ []) in
    let (rest, is, none) = seen_part more (row ++ x ∷ []) (first + 1) many (omega (arith, longer, e)) (omega (arith, less)) in (
      rest,
      ap (λ z. or_nothing z ∷ seen (range_with_len (first + 1) many) (row ++ x ∷ more)) here
          ∙ ap (λ zs. x ∷ zs) (ap (seen (range_with_len (first + 1) many)) (sym (append_assoc row (x ∷ []) more)) ∙ is),
      none,
    )

-- and that is as if nothing stood there
pub part_before : (row rest : Row) (k : ℕ) → AllByRecursion (λ x. x ≡ nothing) rest → or_nothing (at_number (row ++ rest) k) ≡ or_nothing (at_number row k)
part_before row rest zero none = refl
part_before row rest (suc i) none = got_before row rest i none

-- Terms.

module _ (me : ℕ) (slots : List Val) where
  module _ (f : ℕ → Term) (row vars : Row) (sees : (k : ℕ) → term_value me slots row (f k) ≡ or_nothing (at_number vars k)) where
    abbrev Worth : Term → Type 0
    Worth t = term_value me slots row (rename f t) ≡ term_value me slots vars t

    parts_worth : (parts : List Term) → AllByRecursion Worth parts → map (term_value me slots row) (map (rename f) parts) ≡ map (term_value me slots vars) parts
    parts_worth [] each = refl
    parts_worth (t ∷ ts) each = ap (λ z. z ∷ map (term_value me slots row) (map (rename f) ts)) each.0 ∙ ap (λ zs. term_value me slots vars t ∷ zs) (parts_worth ts each.1)

    worth_as : (t u : Term) → rename f t ≡ u → term_value me slots row u ≡ term_value me slots vars t → Worth t
    worth_as t u e same = ap (term_value me slots row) e ∙ same

    pub renamed_value : (t : Term) → term_value me slots row (rename f t) ≡ term_value me slots vars t
    renamed_value =
        term_induction Worth
        (λ c. worth_as (term.Const c) (term.Const c) (rename-Const f c) (term-Const me slots row c ∙ sym (term-Const me slots vars c)))
        (worth_as term.Me term.Me (rename-Me f) (term-Me me slots row ∙ sym (term-Me me slots vars)))
        (λ s. worth_as (term.Slot s) (term.Slot s) (rename-Slot f s) (term-Slot me slots row s ∙ sym (term-Slot me slots vars s)))
        (λ k. worth_as (term.Part k) (f k) (rename-Part f k) (sees k ∙ sym (term-Part me slots vars k)))
        (λ parts each. worth_as (term.Tuple parts) (term.Tuple (map (rename f) parts)) (rename-Tuple f parts) (term-Tuple me slots row (map (rename f) parts) ∙ ap val.Tuple (parts_worth parts each) ∙ sym (term-Tuple me slots vars parts)))
        (worth_as term.Foreign term.Foreign (rename-Foreign f) (term-Foreign me slots row ∙ sym (term-Foreign me slots vars)))

  known_at : (vars : List ℕ) (row : Row) (i : ℕ) (o : Option ℕ) → slice_get vars i ≡ o → term_value me slots row (part_of o) ≡ or_nothing (slice_get (seen vars row) i)
  known_at vars row i None e = term-Foreign me slots row ∙ ap or_nothing (sym (slice_get-map (λ part. or_nothing (at_number row part)) vars i ∙ ap (option_map (λ part. or_nothing (at_number row part))) e))
  known_at vars row i (Some p) e = term-Part me slots row p ∙ ap or_nothing (sym (slice_get-map (λ part. or_nothing (at_number row part)) vars i ∙ ap (option_map (λ part. or_nothing (at_number row part))) e))

  known_sees : (vars : List ℕ) (row : Row) (k : ℕ) → term_value me slots row (known vars k) ≡ or_nothing (at_number (seen vars row) k)
  known_sees vars row zero = term-Foreign me slots row
  known_sees vars row (suc i) = known_at vars row i (slice_get vars i) refl

  -- a term of known variables
  pub known_value : (vars : List ℕ) (row : Row) (t : Term) → term_value me slots row (rename (known vars) t) ≡ term_value me slots (seen vars row) t
  known_value vars row t = renamed_value (known vars) row (seen vars row) (known_sees vars row) t

  -- whatever a match puts after both rows, if it is at most n parts
  abbrev pub Tracks : ℕ → (ℕ → Term) → Row → Row → Type 0
  Tracks n f row vars = (more : Row) → length more ≤ n → (k : ℕ) → term_value me slots (row ++ more) (f k) ≡ or_nothing (at_number (vars ++ more) k)

  tracks_on : (n m : ℕ) (f : ℕ → Term) (row vars more : Row) → length more + m ≤ n → Tracks n f row vars → Tracks m f (row ++ more) (vars ++ more)
  tracks_on n m f row vars more few tracks further less k =
      ap (λ z. term_value me slots z (f k)) (append_assoc row more further)
      ∙ tracks (more ++ further) (omega (arith, length-append more further, few, less)) k
      ∙ ap (λ z. or_nothing (at_number z k)) (sym (append_assoc vars more further))

  tracks_now : (n : ℕ) (f : ℕ → Term) (row vars : Row) → Tracks n f row vars → (k : ℕ) → term_value me slots row (f k) ≡ or_nothing (at_number vars k)
  tracks_now n f row vars tracks k = ap (λ z. term_value me slots z (f k)) (sym (append-nil row)) ∙ tracks [] (omega arith) k ∙ ap (λ z. or_nothing (at_number z k)) (append-nil vars)

  -- the variables of a generator's patterns
  pub after_tracks : (vars : List ℕ) (row : Row) (n : ℕ) → AllIn vars (length row) → Tracks n (known (vars ++ range_with_len (suc (length row)) n)) row (seen vars row)
  after_tracks vars row n all more less k =
      let (rest, is, none) = seen_part more row (suc (length row)) n refl less in
      let whole : seen (vars ++ range_with_len (suc (length row)) n) (row ++ more) ≡ (seen vars row ++ more) ++ rest =
      seen-append vars (range_with_len (suc (length row)) n) (row ++ more)
      ∙ ap (λ zs. zs ++ seen (range_with_len (suc (length row)) n) (row ++ more)) (seen_front vars row more all)
      ∙ ap (λ zs. seen vars row ++ zs) is ∙ sym (append_assoc (seen vars row) more rest) in
      known_sees (vars ++ range_with_len (suc (length row)) n) (row ++ more) k
      ∙ ap (λ z. or_nothing (at_number z k)) whole
      ∙ part_before (seen vars row ++ more) rest k none

-- Patterns.

-- so many parts, if any
abbrev pub HasParts : ℕ → Option Row → Type 0
HasParts n None = Unit {0}
HasParts n (Some row) = length row ≡ n

-- the same n parts, if any, are put after both rows
pub record Both (n : ℕ) (row vars : Row) (left right : Option Row) : Type 0 where
  pub found : Option Row
  pub parts : HasParts n found
  pub one : left ≡ after_row_of row found
  pub two : right ≡ after_row_of vars found

after_twice : (a b : Row) (found : Option Row) → after_row_of a (after_row_of b found) ≡ after_row_of (a ++ b) found
after_twice a b None = refl
after_twice a b (Some found) = ap Some (sym (append_assoc a b found))

parts_behind : (m n : ℕ) (more : Row) (found : Option Row) → length more ≡ m → HasParts n found → HasParts (m + n) (after_row_of more found)
parts_behind m n more None long parts = tt
parts_behind m n more (Some found) long parts = length-append more found ∙ omega (arith, long, parts)

both_itself : (row vars : Row) → Both 0 row vars (Some row) (Some vars)
both_itself row vars = record { found = Some []; parts = refl; one = ap Some (sym (append-nil row)); two = ap Some (sym (append-nil vars)) }

both_none : (n : ℕ) (row vars : Row) → Both n row vars None None
both_none n row vars = record { found = None; parts = tt; one = refl; two = refl }

both_where : (b : Bool) (row vars : Row) → Both 0 row vars (where_true b row) (where_true b vars)
both_where true row vars = both_itself row vars
both_where false row vars = both_none 0 row vars

both_as : (m n : ℕ) (row vars : Row) (a b c e : Option Row) → m ≡ n → a ≡ b → c ≡ e → Both m row vars b e → Both n row vars a c
both_as m n row vars a b c e many left right both = record { found = both.found; parts = subst (λ k. HasParts k both.found) many both.parts; one = left ∙ both.one; two = right ∙ both.two }

both_then : (m n : ℕ) (go_on other : Row → Option Row) (row vars : Row) (left right : Option Row) → ((more : Row) → length more ≡ m → Both n (row ++ more) (vars ++ more) (go_on (row ++ more)) (other (vars ++ more))) → Both m row vars left right → Both (m + n) row vars (and_then left go_on) (and_then right other)
both_then m n go_on other row vars left right next both = go both.found both.parts both.one both.two
  where
    go : (found : Option Row) → HasParts m found → left ≡ after_row_of row found → right ≡ after_row_of vars found → Both (m + n) row vars (and_then left go_on) (and_then right other)
    go None parts one two = record { found = None; parts = tt; one = ap (λ z. and_then z go_on) one; two = ap (λ z. and_then z other) two }
    go (Some more) parts one two =
        let further = next more parts in
        record {
          found = after_row_of more further.found;
          parts = parts_behind m n more further.found parts further.parts;
          one = ap (λ z. and_then z go_on) one ∙ further.one ∙ sym (after_twice row more further.found);
          two = ap (λ z. and_then z other) two ∙ further.two ∙ sym (after_twice vars more further.found);
        }

module _ (me : ℕ) (slots : List Val) (f : ℕ → Term) where
  abbrev Follows : Pattern → Type 0
  Follows p = (n : ℕ) (x : Val) (row vars : Row) → binds p ≤ n → Tracks me slots n f row vars → Both (binds p) row vars (matched me slots (rename_pattern f p) x row) (matched me slots p x vars)

  -- what the renamed pattern is, and how many variables the pattern has
  follows_as : (p q : Pattern) (many : ℕ) → rename_pattern f p ≡ q → binds p ≡ many → ((n : ℕ) (x : Val) (row vars : Row) → many ≤ n → Tracks me slots n f row vars → Both many row vars (matched me slots q x row) (matched me slots p x vars)) → Follows p
  follows_as p q many e count both n x row vars few tracks =
      subst (λ k. Both k row vars (matched me slots (rename_pattern f p) x row) (matched me slots p x vars)) (sym count)
      (subst (λ z. Both many row vars (matched me slots z x row) (matched me slots p x vars)) (sym e) (both n x row vars (subst (λ k. k ≤ n) count few) tracks))

  parts_follow : (ps : List Pattern) → AllByRecursion Follows ps → (xs : List Val) (n : ℕ) (row vars : Row) → sum (map binds ps) ≤ n → Tracks me slots n f row vars → Both (sum (map binds ps)) row vars (match_parts (map (matched me slots) (map (rename_pattern f) ps)) xs row) (match_parts (map (matched me slots) ps) xs vars)
  parts_follow [] each [] n row vars few tracks = both_itself row vars
  parts_follow [] each (x ∷ xs) n row vars few tracks = both_none 0 row vars
  parts_follow (p ∷ ps) each [] n row vars few tracks = both_none (sum (map binds (p ∷ ps))) row vars
  parts_follow (p ∷ ps) each (x ∷ xs) n row vars few tracks =
      let count : sum (map binds (p ∷ ps)) ≡ binds p + sum (map binds ps) = sum_by-cons (λ k. k) (binds p) (map binds ps) in
      subst (λ k. Both k row vars (match_parts (map (matched me slots) (map (rename_pattern f) (p ∷ ps))) (x ∷ xs) row) (match_parts (map (matched me slots) (p ∷ ps)) (x ∷ xs) vars)) (sym count)
      (both_then (binds p) (sum (map binds ps)) (match_parts (map (matched me slots) (map (rename_pattern f) ps)) xs) (match_parts (map (matched me slots) ps) xs) row vars
      (matched me slots (rename_pattern f p) x row) (matched me slots p x vars)
      (λ more long. parts_follow ps each.1 xs (sum (map binds ps)) (row ++ more) (vars ++ more) (omega arith) (tracks_on me slots n (sum (map binds ps)) f row vars more (omega (arith, long, count, few)) tracks))
      (each.0 n x row vars (omega (arith, count, few)) tracks))

  tuple_follows : (ps : List Pattern) → AllByRecursion Follows ps → (x : Val-F Val) (n : ℕ) (row vars : Row) → sum (map binds ps) ≤ n → Tracks me slots n f row vars → Both (sum (map binds ps)) row vars (match_tuple (map (matched me slots) (map (rename_pattern f) ps)) x row) (match_tuple (map (matched me slots) ps) x vars)
  tuple_follows ps each (layer.Tuple xs) n row vars few tracks = parts_follow ps each xs n row vars few tracks
  tuple_follows ps each (layer.Int i) n row vars few tracks = both_none (sum (map binds ps)) row vars
  tuple_follows ps each (layer.Bool b) n row vars few tracks = both_none (sum (map binds ps)) row vars
  tuple_follows ps each (layer.Text t) n row vars few tracks = both_none (sum (map binds ps)) row vars
  tuple_follows ps each (layer.Proc p) n row vars few tracks = both_none (sum (map binds ps)) row vars
  tuple_follows ps each (layer.Set xs) n row vars few tracks = both_none (sum (map binds ps)) row vars

  pub match_follows : (p : Pattern) → Follows p
  match_follows =
      pattern_induction Follows
      (follows_as pattern.Any pattern.Any 0 (renamed-Any f) binds-Any (λ n x row vars few tracks. both_as 0 0 row vars _ (Some row) _ (Some vars) refl (match-Any me slots x row) (match-Any me slots x vars) (both_itself row vars)))
      (follows_as pattern.Bind pattern.Bind 1 (renamed-Bind f) binds-Bind (λ n x row vars few tracks. record { found = Some (x ∷ []); parts = refl; one = match-Bind me slots x row; two = match-Bind me slots x vars }))
      (λ c. follows_as (pattern.Const c) (pattern.Const c) 0 (renamed-Const f c) (binds-Const c) (λ n x row vars few tracks. both_as 0 0 row vars _ _ _ _ refl (match-Const me slots x row c) (match-Const me slots x vars c) (both_where (is_same x (val_of c)) row vars)))
      (follows_as pattern.Me pattern.Me 0 (renamed-Me f) binds-Me (λ n x row vars few tracks. both_as 0 0 row vars _ _ _ _ refl (match-Me me slots x row) (match-Me me slots x vars) (both_where (is_same x (val.Proc me)) row vars)))
      (λ t. follows_as (pattern.Equal t) (pattern.Equal (rename f t)) 0 (renamed-Equal f t) (binds-Equal t) (λ n x row vars few tracks.
      both_as 0 0 row vars _ (where_true (is_same x (term_value me slots vars t)) row) _ (where_true (is_same x (term_value me slots vars t)) vars) refl
      (match-Equal me slots x row (rename f t) ∙ ap (λ z. where_true (is_same x z) row) (renamed_value me slots f row vars (tracks_now me slots n f row vars tracks) t))
      (match-Equal me slots x vars t) (both_where (is_same x (term_value me slots vars t)) row vars)))
      (λ ps each. follows_as (pattern.Tuple ps) (pattern.Tuple (map (rename_pattern f) ps)) (sum (map binds ps)) (renamed-Tuple f ps) (binds-Tuple ps) (λ n x row vars few tracks.
      both_as (sum (map binds ps)) (sum (map binds ps)) row vars _ _ _ _ refl (match-Tuple me slots x row (map (rename_pattern f) ps)) (match-Tuple me slots x vars ps) (tuple_follows ps each (out-Val x) n row vars few tracks)))

-- a candidate of a generator
module _ (d : Data) (f : ℕ → Term) where
  message_follows : (message peer : Pattern) (x : Val) (p : ℕ) (row vars : Row) → Tracks d.me d.slots (binds message + binds peer) f row vars → Both (binds message + binds peer) row vars (matched_candidate d (rename_pattern f message) (rename_pattern f peer) (Message x p) row) (matched_candidate d message peer (Message x p) vars)
  message_follows message peer x p row vars tracks =
      both_then (binds message) (binds peer) (matched d.me d.slots (rename_pattern f peer) (val.Proc p)) (matched d.me d.slots peer (val.Proc p)) row vars
      (matched d.me d.slots (rename_pattern f message) x row) (matched d.me d.slots message x vars)
      (λ more long. match_follows d.me d.slots f peer (binds peer) (val.Proc p) (row ++ more) (vars ++ more) (omega arith) (tracks_on d.me d.slots (binds message + binds peer) (binds peer) f row vars more (omega (arith, long)) tracks))
      (match_follows d.me d.slots f message (binds message + binds peer) x row vars (omega arith) tracks)

  parts_follow_of : (s : Source) (message peer : Pattern) (c : Candidate) (row vars : Row) → IsOf s c → Tracks d.me d.slots (parts_added (record { source = s; message = message; peer = peer })) f row vars
      → Both (parts_added (record { source = s; message = message; peer = peer })) row vars (matched_candidate d (rename_pattern f message) (rename_pattern f peer) c row) (matched_candidate d message peer c vars)
  parts_follow_of (source.Slot s) message peer (Element x) row vars is tracks =
      both_as (binds message) (binds message + 0) row vars _ _ _ _ (omega arith) refl refl (match_follows d.me d.slots f message (binds message + 0) x row vars (omega arith) tracks)
  parts_follow_of (source.Slot s) message peer (Message x p) row vars is tracks = absurd is
  parts_follow_of source.Received message peer (Element x) row vars is tracks = absurd is
  parts_follow_of source.Received message peer (Message x p) row vars is tracks = message_follows message peer x p row vars tracks
  parts_follow_of source.Sent message peer (Element x) row vars is tracks = absurd is
  parts_follow_of source.Sent message peer (Message x p) row vars is tracks = message_follows message peer x p row vars tracks

  pub candidate_follows : (g : RGen) (c : Candidate) (row vars : Row) → IsOf g.source c → Tracks d.me d.slots (parts_added g) f row vars → Both (parts_added g) row vars (matched_candidate d (rename_pattern f g.message) (rename_pattern f g.peer) c row) (matched_candidate d g.message g.peer c vars)
  candidate_follows g c row vars is tracks = parts_follow_of g.source g.message g.peer c row vars is tracks
