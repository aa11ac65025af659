-- Which nodes are kept, and what code makes of them step by step.
use Rattle.std.specs.Prelude.{◌≡◌, ◌⊎◌, ◌≤◌, ◌<◌, ◌+◌, ◌-◌, ℕ, zero, suc, Bool, true, false, if◌then◌else◌, List, [], ◌∷◌, ◌++◌, length, map, get_or, slice_get, slice_set, drop, take, Option, Some, refl}
use Rattle.std.specs.List.{AllByRecursion}
use Rattle.std.proofs.Common.{ap, sym, subst, ◌∙◌, inl, inr, arith, append-nil, append_assoc}
use Rattle.std.proofs.lemmas.Bool.{false≢true}
use Rattle.std.proofs.lemmas.List.{drop_all, drop_more, length-take-le, map-append, take_all, take_more}
use Rattle.std.proofs.lemmas.Option.{slice_get-get_or, slice_get_within}
use Rattle.da_lang.specs.declared.query.Node.{Node}
use Rattle.da_lang.specs.declared.query.Node.TheVariants as node
use Rattle.query_plan.specs.declared.stored.Seen.{Seen}
use Rattle.query_plan.specs.declared.stored.Test.{Test}
use Rattle.query_plan.specs.Nodes.{IsPlan, reads}
use Rattle.query_plan.specs.Storing.{AreBelow, AreEntries, AreKept, IsChoice, all_kept, is_kept, named_kept, named_nodes, picked, ranks, read_down, reads_kept, renumbered, renumbered_test, seen_as, table_from, test_nodes}

pub put_past : {A : Type 0} (xs : List A) (at : ℕ) (x : A) → length xs ≤ at → slice_set xs at x ≡ xs
put_past [] at x past = refl
put_past (y ∷ xs) zero x past = absurd (omega (arith, past))
put_past (y ∷ xs) (suc at) x past = ap (λ l. y ∷ l) (put_past xs at x (omega (arith, past)))

-- ONE NODE IS KEPT

long_set : (kept : List Bool) (k : ℕ) → length (slice_set kept k true) ≡ length kept
long_set [] k = refl
long_set (b ∷ kept) zero = refl
long_set (b ∷ kept) (suc k) = omega (arith, long_set kept k)

set_here : (kept : List Bool) (k : ℕ) → k < length kept → is_kept (slice_set kept k true) k ≡ true
set_here [] k inside = absurd (omega (arith, inside))
set_here (b ∷ kept) zero inside = refl
set_here (b ∷ kept) (suc k) inside = set_here kept k (omega (arith, inside))

set_still : (kept : List Bool) (k j : ℕ) → is_kept kept j ≡ true → is_kept (slice_set kept k true) j ≡ true
set_still [] k j stays = stays
set_still (b ∷ kept) zero zero stays = refl
set_still (b ∷ kept) zero (suc j) stays = stays
set_still (b ∷ kept) (suc k) zero stays = stays
set_still (b ∷ kept) (suc k) (suc j) stays = set_still kept k j stays

set_other : (kept : List Bool) (k j : ℕ) → k < j → is_kept (slice_set kept k true) j ≡ is_kept kept j
set_other [] k j less = refl
set_other (b ∷ kept) zero zero less = absurd (omega (arith, less))
set_other (b ∷ kept) zero (suc j) less = refl
set_other (b ∷ kept) (suc k) zero less = absurd (omega (arith, less))
set_other (b ∷ kept) (suc k) (suc j) less = set_other kept k j (omega (arith, less))

-- SEVERAL NODES

long_all : (kept : List Bool) (ks : List ℕ) → length (all_kept kept ks) ≡ length kept
long_all kept [] = refl
long_all kept (k ∷ ks) = long_all (slice_set kept k true) ks ∙ long_set kept k

all_still : (kept : List Bool) (ks : List ℕ) (j : ℕ) → is_kept kept j ≡ true → is_kept (all_kept kept ks) j ≡ true
all_still kept [] j stays = stays
all_still kept (k ∷ ks) j stays = all_still (slice_set kept k true) ks j (set_still kept k j stays)

all_here : (kept : List Bool) (ks : List ℕ) → AllByRecursion (λ k. k < length kept) ks → AreKept (all_kept kept ks) ks
all_here kept [] inside = tt
all_here kept (k ∷ ks) inside = (
  all_still (slice_set kept k true) ks k (set_here kept k inside.0),
  all_here (slice_set kept k true) ks (as_long ks inside.1),
)
  where
    as_long : (js : List ℕ) → AllByRecursion (λ j. j < length kept) js → AllByRecursion (λ j. j < length (slice_set kept k true)) js
    as_long [] all = tt
    as_long (j ∷ js) all = (omega (arith, all.0, long_set kept k), as_long js all.1)

all_other : (kept : List Bool) (ks : List ℕ) (j : ℕ) → AllByRecursion (λ k. k < j) ks → is_kept (all_kept kept ks) j ≡ is_kept kept j
all_other kept [] j less = refl
all_other kept (k ∷ ks) j less = all_other (slice_set kept k true) ks j less.1 ∙ set_other kept k j less.0

kept_still : (kept more : List Bool) (ks : List ℕ) → ((j : ℕ) → is_kept kept j ≡ true → is_kept more j ≡ true) → AreKept kept ks → AreKept more ks
kept_still kept more [] still all = tt
kept_still kept more (k ∷ ks) still all = (still k all.0, kept_still kept more ks still all.1)

-- NODES BY WHICH NODES ARE TOLD

long_named : (kept : List Bool) (entries : List Seen) → length (named_kept kept entries) ≡ length kept
long_named kept [] = refl
long_named kept (s ∷ entries) = long_named (all_kept kept (named_nodes s)) entries ∙ long_all kept (named_nodes s)

named_still : (kept : List Bool) (entries : List Seen) (j : ℕ) → is_kept kept j ≡ true → is_kept (named_kept kept entries) j ≡ true
named_still kept [] j stays = stays
named_still kept (s ∷ entries) j stays = named_still (all_kept kept (named_nodes s)) entries j (all_still kept (named_nodes s) j stays)

named_here : (kept : List Bool) (entries : List Seen) → ((i : ℕ) (s : Seen) → slice_get entries i ≡ Some s → AllByRecursion (λ k. k < length kept) (named_nodes s))
    → (i : ℕ) (s : Seen) → slice_get entries i ≡ Some s → AreKept (named_kept kept entries) (named_nodes s)
named_here kept [] inside i s there = absurd (cc)
named_here kept (e ∷ entries) inside zero s there =
    let same : e ≡ s = cc in
    subst (λ z. AreKept (named_kept (all_kept kept (named_nodes e)) entries) (named_nodes z)) same
    (kept_still (all_kept kept (named_nodes e)) (named_kept (all_kept kept (named_nodes e)) entries) (named_nodes e) (named_still (all_kept kept (named_nodes e)) entries) (all_here kept (named_nodes e) (inside 0 e refl)))
named_here kept (e ∷ entries) inside (suc i) s there =
    named_here (all_kept kept (named_nodes e)) entries (λ k z h. subst (λ n. AllByRecursion (λ j. j < n) (named_nodes z)) (sym (long_all kept (named_nodes e))) (inside (suc k) z h)) i s there

-- NODES THAT KEPT ONES READ

module _ (nodes : List Node) (plan : IsPlan nodes) where
  -- all that the nodes from node i on read is kept, where they are
  abbrev ReadFrom : ℕ → List Bool → Type 0
  ReadFrom i kept = (j : ℕ) (n : Node) → i ≤ j → slice_get nodes j ≡ Some n → is_kept kept j ≡ true → AreKept kept (reads n)

  inside_all : (kept : List Bool) (i : ℕ) (js : List ℕ) → i < length kept → AllByRecursion (λ j. j < i) js → AllByRecursion (λ j. j < length kept) js
  inside_all kept i [] inside less = tt
  inside_all kept i (j ∷ js) inside less = (omega (arith, inside, less.0), inside_all kept i js inside less.1)

  up_to : (i j : ℕ) (js : List ℕ) → i ≤ j → AllByRecursion (λ k. k < i) js → AllByRecursion (λ k. k < j) js
  up_to i j [] most less = tt
  up_to i j (k ∷ js) most less = (omega (arith, most, less.0), up_to i j js most less.1)

  this_or_later : (i j : ℕ) → i ≤ j → (i ≡ j) ⊎ (suc i ≤ j)
  this_or_later zero zero up = inl refl
  this_or_later zero (suc j) up = inr (omega arith)
  this_or_later (suc i) zero up = absurd (omega (arith, up))
  this_or_later (suc i) (suc j) up = elim (this_or_later i j (omega (arith, up))) [ inl e ↦ inl (ap suc e) | inr later ↦ inr (omega (arith, later)) ]

  -- where node i is kept, what it reads is kept too
  read_on : (i : ℕ) (n : Node) (kept : List Bool) → slice_get nodes i ≡ Some n → i < length kept → ReadFrom (suc i) kept → ReadFrom i (all_kept kept (reads n))
  read_on i n kept here inside above j m up there alive = elim (this_or_later i j up) [
    | inl this ↦
        let same : ◌≡◌ {A = Option Node} (Some n) (Some m) = sym here ∙ ap (slice_get nodes) this ∙ there in
        let one : n ≡ m = cc in
        subst (λ z. AreKept (all_kept kept (reads n)) (reads z)) one (all_here kept (reads n) (inside_all kept i (reads n) inside (plan i n here).0))
    | inr later ↦
        kept_still kept (all_kept kept (reads n)) (reads m) (all_still kept (reads n))
        (above j m later there (sym (all_other kept (reads n) j (up_to i j (reads n) (omega (arith, later)) (plan i n here).0)) ∙ alive))
  ]

  -- where it is not, nothing more is
  read_off : (i : ℕ) (kept : List Bool) → is_kept kept i ≡ false → ReadFrom (suc i) kept → ReadFrom i kept
  read_off i kept gone above j m up there alive = elim (this_or_later i j up) [
    | inl this ↦ absurd (false≢true (sym gone ∙ ap (is_kept kept) this ∙ alive))
    | inr later ↦ above j m later there alive
  ]

  one_read : (i : ℕ) (n : Node) (kept : List Bool) → slice_get nodes i ≡ Some n → i < length kept → ReadFrom (suc i) kept
      → (length (reads_kept i n kept) ≡ length kept) × ((j : ℕ) → is_kept kept j ≡ true → is_kept (reads_kept i n kept) j ≡ true) × ReadFrom i (reads_kept i n kept)
  one_read i n kept here inside above = go (is_kept kept i) refl
    where
      go : (b : Bool) → is_kept kept i ≡ b
          → (length (if b then all_kept kept (reads n) else kept) ≡ length kept) × ((j : ℕ) → is_kept kept j ≡ true → is_kept (if b then all_kept kept (reads n) else kept) j ≡ true) × ReadFrom i (if b then all_kept kept (reads n) else kept)
      go true stays = (long_all kept (reads n), all_still kept (reads n), read_on i n kept here inside above)
      go false gone = (refl, λ j stays. stays, read_off i kept gone above)

  all_read : (i : ℕ) (kept : List Bool) → i ≤ length nodes → length kept ≡ length nodes → ReadFrom i kept
      → (length (read_down i nodes kept) ≡ length nodes) × ((j : ℕ) → is_kept kept j ≡ true → is_kept (read_down i nodes kept) j ≡ true) × ReadFrom 0 (read_down i nodes kept)
  all_read zero kept most long from = (long, λ j stays. stays, from)
  all_read (suc i) kept most long from =
      let n : Node = get_or nodes i node.Root in
      let here : slice_get nodes i ≡ Some n = slice_get-get_or nodes i node.Root (omega (arith, most)) in
      let (same, still, on) = one_read i n kept here (omega (arith, most, long)) from in
      let (end_long, end_still, end_on) = all_read i (reads_kept i n kept) (omega (arith, most)) (same ∙ long) on in
      (end_long, λ j stays. end_still j (still j stays), end_on)

  pub choice_is : (entries : List Seen) (start kept : List Bool) → AreEntries nodes entries → length entries ≡ length nodes → length start ≡ length nodes
      → kept ≡ read_down (length nodes) nodes (named_kept start entries) → IsChoice nodes entries kept
  choice_is entries start kept are many long is =
      let named : List Bool = named_kept start entries in
      let within : length named ≡ length nodes = long_named start entries ∙ long in
      let (end_long, end_still, end_on) = all_read (length nodes) named (omega arith) within (λ j n up there stays. absurd (past j n up there)) in
      record {
        many = ap length is ∙ end_long;
        named = λ i s there.
            subst (λ ks. AreKept ks (named_nodes s)) (sym is)
            (kept_still named (read_down (length nodes) nodes named) (named_nodes s) end_still (named_here start entries (λ k z h. low k z h) i s there));
        read = λ i n there stays. subst (λ ks. AreKept ks (reads n)) (sym is) (end_on i n (omega arith) there (ap (λ ks. is_kept ks i) (sym is) ∙ stays));
      }
    where
      past : (j : ℕ) (n : Node) → length nodes ≤ j → slice_get nodes j ≡ Some n → ⊥
      past j n up there = omega (arith, up, slice_get_within nodes j n there)

      low_all : (k : ℕ) (js : List ℕ) → k < length start → AreBelow k js → AllByRecursion (λ j. j < length start) js
      low_all k [] inside below = tt
      low_all k (j ∷ js) inside below = (omega (arith, inside, below.0), low_all k js inside below.1)

      low : (k : ℕ) (z : Seen) → slice_get entries k ≡ Some z → AllByRecursion (λ j. j < length start) (named_nodes z)
      low k z h = low_all k (named_nodes z) (omega (arith, long, many, slice_get_within entries k z h)) (are k z h).below

-- STEP BY STEP

all_kept-push : (kept : List Bool) (ks : List ℕ) (k : ℕ) → all_kept kept (ks ++ k ∷ []) ≡ slice_set (all_kept kept ks) k true
all_kept-push kept [] k = refl
all_kept-push kept (j ∷ ks) k = all_kept-push (slice_set kept j true) ks k

nodes-push : (tests : List Test) (t : Test) → test_nodes (tests ++ t ∷ []) ≡ test_nodes tests ++ t.node ∷ []
nodes-push [] t = refl
nodes-push (x ∷ tests) t = ap (λ ks. x.node ∷ ks) (nodes-push tests t)

pub tested_more : (start kept next : List Bool) (tests : List Test) (i : ℕ) (d : Test) → i < length tests → kept ≡ all_kept start (test_nodes (take i tests)) → next ≡ slice_set kept (get_or tests i d).node true
    → next ≡ all_kept start (test_nodes (take (i + 1) tests))
tested_more start kept next tests i d inside so_far set =
    let t : Test = get_or tests i d in
    set ∙ ap (λ ks. slice_set ks t.node true) so_far ∙ sym (all_kept-push start (test_nodes (take i tests)) t.node) ∙ ap (all_kept start) (sym (nodes-push (take i tests) t))
    ∙ ap (λ ts. all_kept start (test_nodes ts)) (sym (take_more tests i d inside))

pub tested_all : (start kept : List Bool) (tests : List Test) (i : ℕ) → length tests ≤ i → kept ≡ all_kept start (test_nodes (take i tests)) → kept ≡ all_kept start (test_nodes tests)
tested_all start kept tests i past so_far = so_far ∙ ap (λ ts. all_kept start (test_nodes ts)) (take_all i tests past)

named_kept-push : (kept : List Bool) (entries : List Seen) (s : Seen) → named_kept kept (entries ++ s ∷ []) ≡ all_kept (named_kept kept entries) (named_nodes s)
named_kept-push kept [] s = refl
named_kept-push kept (e ∷ entries) s = named_kept-push (all_kept kept (named_nodes e)) entries s

pub named_more : (start kept next : List Bool) (entries : List Seen) (i : ℕ) (s : Seen) → i < length entries → s ≡ get_or entries i s → kept ≡ named_kept start (take i entries) → next ≡ all_kept kept (named_nodes s)
    → next ≡ named_kept start (take (i + 1) entries)
named_more start kept next entries i s inside is so_far set =
    set ∙ ap (λ ks. all_kept ks (named_nodes s)) so_far ∙ sym (named_kept-push start (take i entries) s)
    ∙ ap (named_kept start) (ap (λ z. take i entries ++ z ∷ []) is ∙ sym (take_more entries i s inside))

pub named_all : (start kept : List Bool) (entries : List Seen) (i : ℕ) → length entries ≤ i → kept ≡ named_kept start (take i entries) → kept ≡ named_kept start entries
named_all start kept entries i past so_far = so_far ∙ ap (named_kept start) (take_all i entries past)

pub read_start : (kept : List Bool) (nodes : List Node) (count : ℕ) → read_down (count - 0) nodes kept ≡ read_down count nodes kept
read_start kept nodes count = let all : count - 0 ≡ count = omega arith in ap (λ k. read_down k nodes kept) all

pub read_next : (start kept next : List Bool) (nodes : List Node) (count done i : ℕ) (n : Node) → done < count → i ≡ count - 1 - done → count ≡ length nodes → n ≡ get_or nodes i n
    → read_down (count - done) nodes kept ≡ read_down count nodes start → next ≡ reads_kept i n kept → read_down (count - (done + 1)) nodes next ≡ read_down count nodes start
read_next start kept next nodes count done i n inside place all is so_far set =
    let more : count - done ≡ suc i = omega (arith, inside, place) in
    let same : count - (done + 1) ≡ i = omega (arith, inside, place) in
    let node_is : get_or nodes i node.Root ≡ n = other_default nodes i node.Root n (omega (arith, inside, place, all)) ∙ sym is in
    ap (λ k. read_down k nodes next) same ∙ ap (read_down i nodes) (set ∙ ap (λ m. reads_kept i m kept) (sym node_is)) ∙ sym (ap (λ k. read_down k nodes kept) more) ∙ so_far
  where
    other_default : (ns : List Node) (k : ℕ) (a b : Node) → k < length ns → get_or ns k a ≡ get_or ns k b
    other_default [] k a b less = absurd (omega (arith, less))
    other_default (m ∷ ns) zero a b less = refl
    other_default (m ∷ ns) (suc k) a b less = other_default ns k a b (omega (arith, less))

pub read_end : (start kept : List Bool) (nodes : List Node) (count done : ℕ) → count ≤ done → count ≡ length nodes → read_down (count - done) nodes kept ≡ read_down count nodes start → kept ≡ read_down (length nodes) nodes start
read_end start kept nodes count done past all so_far =
    let none : count - done ≡ 0 = omega (arith, past) in
    sym (ap (λ k. read_down k nodes kept) none) ∙ so_far ∙ ap (λ k. read_down k nodes start) all

-- what is left of a list at a place
pub drop_one : {A : Type 0} (xs : List A) (i : ℕ) (x : A) → i < length xs → x ≡ get_or xs i x → drop i xs ≡ x ∷ drop (i + 1) xs
drop_one xs i x inside is = drop_more xs i x inside ∙ ap (λ z. z ∷ drop (i + 1) xs) (sym is)

pub numbers_next : (whole numbers more : List ℕ) (kept : List Bool) (i next after : ℕ) (d : Bool) → i < length kept → more ≡ numbers ++ next ∷ [] → after ≡ (if get_or kept i d then suc next else next)
    → numbers ++ ranks next (drop i kept) ≡ whole → more ++ ranks after (drop (i + 1) kept) ≡ whole
numbers_next whole numbers more kept i next after d inside pushed next_is so_far =
    ap (λ zs. zs ++ ranks after (drop (i + 1) kept)) pushed ∙ append_assoc numbers (next ∷ []) (ranks after (drop (i + 1) kept))
    ∙ ap (λ k. numbers ++ next ∷ ranks k (drop (i + 1) kept)) next_is
    ∙ ap (λ bs. numbers ++ ranks next bs) (sym (drop_more kept i d inside)) ∙ so_far

pub numbers_end : (numbers : List ℕ) (kept : List Bool) (i next : ℕ) → length kept ≤ i → numbers ++ ranks next (drop i kept) ≡ ranks 0 kept → numbers ≡ ranks 0 kept
numbers_end numbers kept i next past so_far = sym (append-nil numbers) ∙ ap (λ bs. numbers ++ ranks next bs) (sym (drop_all i kept past)) ∙ so_far

picked-cons : (f : ℕ → ℕ) (b : Bool) (n : Node) (kept : List Bool) (nodes : List Node) → picked f (b ∷ kept) (n ∷ nodes) ≡ picked f (b ∷ []) (n ∷ []) ++ picked f kept nodes
picked-cons f true n kept nodes = refl
picked-cons f false n kept nodes = refl

pub picks_next : (f : ℕ → ℕ) (whole picks more : List Node) (kept : List Bool) (nodes : List Node) (i : ℕ) (d : Bool) (n : Node) → i < length nodes → length kept ≡ length nodes → n ≡ get_or nodes i n
    → more ≡ picks ++ picked f (get_or kept i d ∷ []) (n ∷ []) → picks ++ picked f (drop i kept) (drop i nodes) ≡ whole → more ++ picked f (drop (i + 1) kept) (drop (i + 1) nodes) ≡ whole
picks_next f whole picks more kept nodes i d n inside long node_is pushed so_far =
    let b : Bool = get_or kept i d in
    ap (λ zs. zs ++ picked f (drop (i + 1) kept) (drop (i + 1) nodes)) pushed
    ∙ append_assoc picks (picked f (b ∷ []) (n ∷ [])) (picked f (drop (i + 1) kept) (drop (i + 1) nodes))
    ∙ ap (λ zs. picks ++ zs) (sym (picked-cons f b n (drop (i + 1) kept) (drop (i + 1) nodes)))
    ∙ ap (λ bs. picks ++ picked f bs (n ∷ drop (i + 1) nodes)) (sym (drop_more kept i d (omega (arith, inside, long))))
    ∙ ap (λ ns. picks ++ picked f (drop i kept) ns) (sym (drop_one nodes i n inside node_is)) ∙ so_far

picked-none : (f : ℕ → ℕ) (kept : List Bool) → picked f kept [] ≡ []
picked-none f [] = refl
picked-none f (b ∷ kept) = refl

pub picks_end : (f : ℕ → ℕ) (picks : List Node) (kept : List Bool) (nodes : List Node) (i : ℕ) → length nodes ≤ i → picks ++ picked f (drop i kept) (drop i nodes) ≡ picked f kept nodes → picks ≡ picked f kept nodes
picks_end f picks kept nodes i past so_far =
    sym (append-nil picks) ∙ ap (λ zs. picks ++ zs) (sym (ap (picked f (drop i kept)) (drop_all i nodes past) ∙ picked-none f (drop i kept))) ∙ so_far

pub renumbered_more : (g : Test → Test) (tests fresh more : List Test) (i : ℕ) (d t : Test) → i < length tests → t ≡ g (get_or tests i d) → fresh ≡ map g (take i tests) → more ≡ fresh ++ t ∷ [] → more ≡ map g (take (i + 1) tests)
renumbered_more g tests fresh more i d t inside is so_far pushed =
    pushed ∙ ap (λ zs. zs ++ t ∷ []) so_far ∙ ap (λ z. map g (take i tests) ++ z ∷ []) is ∙ sym (map-append g (take i tests) (get_or tests i d ∷ [])) ∙ ap (map g) (sym (take_more tests i d inside))

-- a test and an entry by their parts
abbrev pub test_of : ℕ → Bool → Test
test_of k filled = record { node = k; filled = filled }

abbrev pub of_parts : ℕ → List Test → Seen
of_parts k tests = record { node = k; tests = tests }

pub seen_kept : (f : ℕ → ℕ) (stays : Bool) (i k : ℕ) (s itself : Seen) → stays ≡ true → k ≡ f i → itself ≡ of_parts k [] → itself ≡ seen_as f stays i s
seen_kept f stays i k s itself is number made = made ∙ ap (λ m. of_parts m []) number ∙ ap (λ b. seen_as f b i s) (sym is)

pub seen_told : (f : ℕ → ℕ) (stays : Bool) (i k : ℕ) (s : Seen) (tests : List Test) → stays ≡ false → k ≡ f s.node → tests ≡ map (renumbered_test f) s.tests → ◌≡◌ {A = Seen} (record { node = k; tests = tests }) (seen_as f stays i s)
seen_told f stays i k s tests is number all = same ∙ ap (λ b. seen_as f b i s) (sym is)
  where
    same : ◌≡◌ {A = Seen} (record { node = k; tests = tests }) (renumbered f s)
    same = ap (λ m. of_parts m tests) number ∙ ap (of_parts (f s.node)) all

table-push : (f : ℕ → ℕ) (kept : List Bool) (start : ℕ) (entries : List Seen) (s : Seen)
    → table_from f kept start (entries ++ s ∷ []) ≡ table_from f kept start entries ++ seen_as f (is_kept kept (start + length entries)) (start + length entries) s ∷ []
table-push f kept start [] s = ap (λ k. seen_as f (is_kept kept k) k s ∷ []) (let e : start ≡ start + 0 = omega arith in e)
table-push f kept start (x ∷ entries) s =
    ap (λ zs. seen_as f (is_kept kept start) start x ∷ zs) (table-push f kept (suc start) entries s)
    ∙ ap (λ k. seen_as f (is_kept kept start) start x ∷ (table_from f kept (suc start) entries ++ seen_as f (is_kept kept k) k s ∷ [])) (let e : suc start + length entries ≡ start + suc (length entries) = omega arith in e)

pub table_more : (f : ℕ → ℕ) (kept : List Bool) (table next entries : List Seen) (i k : ℕ) (b : Bool) (s seen : Seen) → i < length entries → s ≡ get_or entries i s → k ≡ i → b ≡ is_kept kept i → seen ≡ seen_as f b k s
    → table ≡ table_from f kept 0 (take i entries) → next ≡ table ++ seen ∷ [] → next ≡ table_from f kept 0 (take (i + 1) entries)
table_more f kept table next entries i k b s seen inside is number stays seen_is so_far pushed =
    let long : 0 + length (take i entries) ≡ i = omega (arith, length-take-le i entries (omega (arith, inside))) in
    pushed ∙ ap (λ z. table ++ z ∷ []) (seen_is ∙ ap (λ c. seen_as f c k s) stays ∙ ap (λ m. seen_as f (is_kept kept i) m s) number)
    ∙ ap (λ zs. zs ++ seen_as f (is_kept kept i) i s ∷ []) so_far
    ∙ ap (λ m. table_from f kept 0 (take i entries) ++ seen_as f (is_kept kept m) m s ∷ []) (sym long)
    ∙ sym (table-push f kept 0 (take i entries) s)
    ∙ ap (table_from f kept 0) (ap (λ z. take i entries ++ z ∷ []) is ∙ sym (take_more entries i s inside))

pub table_all : (f : ℕ → ℕ) (kept : List Bool) (table entries : List Seen) (i : ℕ) → length entries ≤ i → table ≡ table_from f kept 0 (take i entries) → table ≡ table_from f kept 0 entries
table_all f kept table entries i past so_far = so_far ∙ ap (table_from f kept 0) (take_all i entries past)
