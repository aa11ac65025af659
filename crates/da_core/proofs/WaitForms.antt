-- What is waited for in a statement, by its form, and on the way through a list.
use Rattle.std.specs.Prelude.{◌≡◌, ℕ, ◌+◌, ◌<◌, Bool, List, [], ◌∷◌, ◌++◌, length, map, Option, Some, None, is_some, unwrap_or, get_or, refl, OnOk}
use Rattle.std.proofs.Common.{◌∙◌, ap, sym, subst, append_assoc, append-nil, drop, Result, Ok, Err}
use Rattle.std.proofs.lemmas.List.{drop_more}
use Rattle.da_lang.specs.declared.program.Alt.{Alt, out-Alt}
use Rattle.da_lang.specs.declared.program.BindArg.{BindArg}
use Rattle.da_lang.specs.declared.program.Item.{Item, out-Item}
use Rattle.da_lang.specs.declared.program.ItemKind.{ItemKind, roll-ItemKind}
use Rattle.da_lang.specs.declared.program.ItemKind.TheVariants as it
use Rattle.da_lang.specs.declared.program.ItemKind.TheOpen.{ItemKind-F}
use Rattle.da_lang.specs.declared.program.ItemKind.TheFolds.{fold-roll-ItemKind, fold_out-Alt, fold_out-Item, fold_out-RBranch, map-ItemKind}
use Rattle.da_lang.specs.declared.program.RBranch.{RBranch, out-RBranch}
use Rattle.da_lang.specs.declared.program.RExpr.{RExpr}
use Rattle.da_core.specs.declared.waits.Alternative.{Alternative}
use Rattle.da_core.specs.Waits.{AltTake, AltsTaken, Take, Taken, Waits, all_taken, alt_step, alt_take, alts_taken, at_label, await_taken, branch_step, branch_take, item_step, item_take, items_take, kind_step, kind_take, next_flag, none_taken}

-- ONE LAYER

form : (k : ItemKind) (x : ItemKind-F ItemKind Alt Item RBranch) → roll-ItemKind x ≡ k
    → kind_take k ≡ kind_step (map-ItemKind ItemKind Alt Item RBranch Take AltTake Take Take kind_take alt_take item_take branch_take x)
unfolding kind_take alt_take item_take branch_take
form k x rolls = ap kind_take (sym rolls) ∙ fold-roll-ItemKind Take AltTake Take Take kind_step alt_step item_step branch_step x

pub item_layer : (i : Item) → item_take i ≡ kind_take (out-Item i).kind
unfolding kind_take item_take
item_layer i = fold_out-Item Take AltTake Take Take kind_step alt_step item_step branch_step i

pub alt_layer : (a : Alt) → alt_take a ≡ record { found = (out-Alt a).found; binds = (out-Alt a).binds; block = items_take (out-Alt a).body }
unfolding alt_take item_take
alt_layer a = fold_out-Alt Take AltTake Take Take kind_step alt_step item_step branch_step a

pub branch_layer : (b : RBranch) → branch_take b ≡ items_take (out-RBranch b).body
unfolding branch_take item_take
branch_layer b = fold_out-RBranch Take AltTake Take Take kind_step alt_step item_step branch_step b

-- ONE PART AFTER ANOTHER

abbrev pub both_taken : Take → Take → Take
both_taken one two flags =
    let first = one flags in
    let second = two first.left in
    record { waits = first.waits ++ second.waits; left = second.left }

all_both : (ones twos : List Take) (flags : List ℕ) → all_taken (ones ++ twos) flags ≡ both_taken (all_taken ones) (all_taken twos) flags
all_both [] twos flags = refl
all_both (one ∷ ones) twos flags =
    let first = one flags in
    let rest = all_taken ones first.left in
    let last = all_taken twos rest.left in
    ap (λ (t : Taken). record { waits = first.waits ++ t.waits; left = t.left }) (all_both ones twos first.left)
    ∙ ap (λ ws. record { waits = ws; left = last.left }) (sym (append_assoc first.waits rest.waits last.waits))

-- IN A STATEMENT, BY ITS FORM

module _ (flags : List ℕ) where
  pub take-If : (branches : List RBranch) (other : List Item) → kind_take (it.If branches other) flags ≡ both_taken (all_taken (map branch_take branches)) (items_take other) flags
  take-If branches other =
      ap (λ (t : Take). t flags) (form (it.If branches other) (ItemKind-F.If branches other) (it.rolls-If branches other))
      ∙ all_both (map branch_take branches) (map item_take other) flags

  pub take-While : (e : RExpr) (body : List Item) → kind_take (it.While e body) flags ≡ items_take body flags
  take-While e body = ap (λ (t : Take). t flags) (form (it.While e body) (ItemKind-F.While e body) (it.rolls-While e body))

  pub take-For : (s : ℕ) (e : RExpr) (body : List Item) → kind_take (it.For s e body) flags ≡ items_take body flags
  take-For s e body = ap (λ (t : Take). t flags) (form (it.For s e body) (ItemKind-F.For s e body) (it.rolls-For s e body))

  pub take-Call : (args : List BindArg) (body : List Item) → kind_take (it.Call args body) flags ≡ items_take body flags
  take-Call args body = ap (λ (t : Take). t flags) (form (it.Call args body) (ItemKind-F.Call args body) (it.rolls-Call args body))

  pub take-Await : (alts : List Alt) (timeout : Option (List Item)) (label : Option ℕ)
      → kind_take (it.Await alts timeout label) flags ≡ await_taken (alts_taken (map alt_take alts) flags) (is_some timeout) label (items_take (unwrap_or timeout []))
  take-Await alts None label = ap (λ (t : Take). t flags) (form (it.Await alts None label) (ItemKind-F.Await alts None label) (it.rolls-Await alts None label))
  take-Await alts (Some body) label =
      ap (λ (t : Take). t flags) (form (it.Await alts (Some body) label) (ItemKind-F.Await alts (Some body) label) (it.rolls-Await alts (Some body) label))

  pub take-Label : (l : ℕ) → kind_take (it.Label l) flags ≡ record { waits = at_label l ∷ []; left = flags }
  take-Label l = ap (λ (t : Take). t flags) (form (it.Label l) (ItemKind-F.Label l) (it.rolls-Label l))

  pub take-Assign : (s : ℕ) (e : RExpr) → kind_take (it.Assign s e) flags ≡ none_taken flags
  take-Assign s e = ap (λ (t : Take). t flags) (form (it.Assign s e) (ItemKind-F.Assign s e) (it.rolls-Assign s e))

  pub take-Add : (s : ℕ) (e : RExpr) → kind_take (it.Add s e) flags ≡ none_taken flags
  take-Add s e = ap (λ (t : Take). t flags) (form (it.Add s e) (ItemKind-F.Add s e) (it.rolls-Add s e))

  pub take-Del : (s : ℕ) (e : RExpr) → kind_take (it.Del s e) flags ≡ none_taken flags
  take-Del s e = ap (λ (t : Take). t flags) (form (it.Del s e) (ItemKind-F.Del s e) (it.rolls-Del s e))

  pub take-Send : (m e : RExpr) → kind_take (it.Send m e) flags ≡ none_taken flags
  take-Send m e = ap (λ (t : Take). t flags) (form (it.Send m e) (ItemKind-F.Send m e) (it.rolls-Send m e))

  pub take-Output : (e : RExpr) → kind_take (it.Output e) flags ≡ none_taken flags
  take-Output e = ap (λ (t : Take). t flags) (form (it.Output e) (ItemKind-F.Output e) (it.rolls-Output e))

  pub take-Pass : kind_take it.Pass flags ≡ none_taken flags
  take-Pass = ap (λ (t : Take). t flags) (form it.Pass ItemKind-F.Pass it.rolls-Pass)

pub ruleset kind_rules = (take-If, take-While, take-For, take-Call, take-Await, take-Label, take-Assign, take-Add, take-Del, take-Send, take-Output, take-Pass)

-- the last call's result is handed on
pub handed_on : {A E : Type 0} (r : Result A E) (old mid new first rest whole : Waits) → OnOk r (new ≡ mid ++ rest) → mid ≡ old ++ first → whole ≡ first ++ rest → OnOk r (new ≡ old ++ whole)
handed_on (Ok v) old mid new first rest whole is before both = is ∙ ap (λ w. w ++ rest) before ∙ append_assoc old first rest ∙ sym (ap (λ w. old ++ w) both)
handed_on (Err e) old mid new first rest whole is before both = tt

pub nothing_more : (old : Waits) (flags : List ℕ) (taken : Taken) → taken ≡ none_taken flags → old ≡ old ++ taken.waits
nothing_more old flags taken none = sym (append-nil old) ∙ sym (ap (λ (t : Taken). old ++ t.waits) none)

-- where the branches come first, and then the others
pub if_parts : (k : ItemKind) (branches bs : List RBranch) (other os : List Item) (flags left : List ℕ) → k ≡ it.If branches other → bs ≡ branches → os ≡ other
    → left ≡ (all_taken (map branch_take bs) flags).left → (kind_take k flags).waits ≡ (all_taken (map branch_take bs) flags).waits ++ (items_take os left).waits
if_parts k branches bs other os flags left is one two three =
    ap (λ x. (kind_take x flags).waits) (is ∙ ap (λ xs. it.If xs other) (sym one) ∙ ap (λ xs. it.If bs xs) (sym two))
    ∙ ap (λ (t : Taken). t.waits) (take-If flags bs os)
    ∙ ap (λ l. (all_taken (map branch_take bs) flags).waits ++ (items_take os l).waits) (sym three)

-- where the alternatives come first, then what is in their blocks, and then the block of the timeout
pub await_parts : (k : ItemKind) (alts lent : List Alt) (timeout : Option (List Item)) (body : List Item) (label : Option ℕ) (own : List Alternative) (has : Bool) (inside : Waits) (flags left : List ℕ) → k ≡ it.Await alts timeout label → lent ≡ alts
    → unwrap_or timeout [] ≡ body → has ≡ is_some timeout → own ≡ (alts_taken (map alt_take lent) flags).own → inside ≡ (alts_taken (map alt_take lent) flags).inside → left ≡ (alts_taken (map alt_take lent) flags).left
    → (kind_take k flags).waits ≡ (record { alternatives = own; has_timeout = has; label = label } ∷ inside) ++ (items_take body left).waits
await_parts k alts lent timeout body label own has inside flags left is one some timed two three four =
    let taken = alts_taken (map alt_take lent) flags in
    ap (λ x. (kind_take x flags).waits) (is ∙ ap (λ xs. it.Await xs timeout label) (sym one)) ∙ ap (λ (t : Taken). t.waits) (take-Await flags lent timeout label)
    ∙ ap (λ items. (await_taken taken (is_some timeout) label (items_take items)).waits) some
    ∙ ap (λ b. (await_taken taken b label (items_take body)).waits) (sym timed)
    ∙ ap (λ alternatives. (record { alternatives = alternatives; has_timeout = has; label = label } ∷ taken.inside) ++ (items_take body taken.left).waits) (sym two)
    ∙ ap (λ w. (record { alternatives = own; has_timeout = has; label = label } ∷ w) ++ (items_take body taken.left).waits) (sym three)
    ∙ ap (λ l. (record { alternatives = own; has_timeout = has; label = label } ∷ inside) ++ (items_take body l).waits) (sym four)

-- where nothing comes after the alternatives
pub await_alone : (k : ItemKind) (alts lent : List Alt) (timeout : Option (List Item)) (label : Option ℕ) (own : List Alternative) (has : Bool) (inside old new : Waits) (flags : List ℕ) → k ≡ it.Await alts timeout label → lent ≡ alts
    → timeout ≡ None → has ≡ is_some timeout → own ≡ (alts_taken (map alt_take lent) flags).own → inside ≡ (alts_taken (map alt_take lent) flags).inside
    → new ≡ old ++ (record { alternatives = own; has_timeout = has; label = label } ∷ inside) → new ≡ old ++ (kind_take k flags).waits
await_alone k alts lent timeout label own has inside old new flags is one none timed two three put =
    let first : Waits = record { alternatives = own; has_timeout = has; label = label } ∷ inside in
    put ∙ ap (λ w. old ++ w) (sym (append-nil first)
    ∙ sym (await_parts k alts lent timeout [] label own has inside flags (alts_taken (map alt_take lent) flags).left is one (ap (λ t. unwrap_or t []) none) timed two three refl))

-- ON THE WAY THROUGH A LIST

-- What is waited for so far, after what was there before, and the flags that are left: what comes of the parts that are left
-- makes it up to the whole.
pub record Came (takes : List Take) (whole : Taken) (old now : Waits) (left : List ℕ) : Type 0 where
  pub so_far : now ++ (all_taken takes left).waits ≡ old ++ whole.waits
  pub behind : (all_taken takes left).left ≡ whole.left

-- the part at this place takes so much
pub came_on : {A : Type 0} (f : A → Take) (xs : List A) (i : ℕ) (x : A) (took : Take) (whole : Taken) (old now more : Waits) (left last : List ℕ) → i < length xs → x ≡ get_or xs i x → f x ≡ took
    → Came (map f (drop i xs)) whole old now left → more ≡ now ++ (took left).waits → last ≡ (took left).left → Came (map f (drop (i + 1) xs)) whole old more last
came_on f xs i x took whole old now more left last inside is same came waits flags =
    let rest = map f (drop (i + 1) xs) in
    let here : Came (took ∷ rest) whole old now left = subst (λ ts. Came ts whole old now left) (ap (map f) (drop_more xs i x inside ∙ ap (λ y. y ∷ drop (i + 1) xs) (sym is)) ∙ ap (λ t. t ∷ rest) same) came in
    record {
      so_far = ap (λ w. w ++ (all_taken rest last).waits) waits ∙ append_assoc now (took left).waits (all_taken rest last).waits
          ∙ ap (λ l. now ++ ((took left).waits ++ (all_taken rest l).waits)) flags ∙ here.so_far;
      behind = ap (λ l. (all_taken rest l).left) flags ∙ here.behind;
    }

-- the same of the alternatives of an `await`
pub record AltsCame (takes : List AltTake) (whole : AltsTaken) (own : List Alternative) (old now : Waits) (left : List ℕ) : Type 0 where
  pub own_so_far : own ++ (alts_taken takes left).own ≡ whole.own
  pub so_far : now ++ (alts_taken takes left).inside ≡ old ++ whole.inside
  pub behind : (alts_taken takes left).left ≡ whole.left

abbrev pub alternative_for : Alt → List ℕ → Alternative
alternative_for a flags = record { flag = next_flag flags; found = (out-Alt a).found; binds = (out-Alt a).binds }

pub alts_on : (xs : List Alt) (i : ℕ) (x : Alt) (body : List Item) (whole : AltsTaken) (own longer : List Alternative) (old now more : Waits) (left last : List ℕ) → i < length xs → x ≡ get_or xs i x
    → body ≡ (out-Alt x).body → AltsCame (map alt_take (drop i xs)) whole own old now left → longer ≡ own ++ alternative_for x left ∷ [] → more ≡ now ++ (items_take body (drop 1 left)).waits
    → last ≡ (items_take body (drop 1 left)).left → AltsCame (map alt_take (drop (i + 1) xs)) whole longer old more last
alts_on xs i x body whole own longer old now more left last inside is same came owns waits flags =
    let rest = map alt_take (drop (i + 1) xs) in
    let took : AltTake = record { found = (out-Alt x).found; binds = (out-Alt x).binds; block = items_take body } in
    let block = items_take body (drop 1 left) in
    let others = alts_taken rest last in
    let takes : alt_take x ≡ took = alt_layer x ∙ ap (λ items. record { found = (out-Alt x).found; binds = (out-Alt x).binds; block = items_take items }) (sym same) in
    let here : AltsCame (took ∷ rest) whole own old now left = subst (λ ts. AltsCame ts whole own old now left) (ap (map alt_take) (drop_more xs i x inside ∙ ap (λ y. y ∷ drop (i + 1) xs) (sym is)) ∙ ap (λ t. t ∷ rest) takes) came in
    record {
      own_so_far = ap (λ w. w ++ others.own) owns ∙ append_assoc own (alternative_for x left ∷ []) others.own
          ∙ ap (λ l. own ++ (alternative_for x left ∷ (alts_taken rest l).own)) flags ∙ here.own_so_far;
      so_far = ap (λ w. w ++ others.inside) waits ∙ append_assoc now block.waits others.inside
          ∙ ap (λ l. now ++ (block.waits ++ (alts_taken rest l).inside)) flags ∙ here.so_far;
      behind = ap (λ l. (alts_taken rest l).left) flags ∙ here.behind;
    }
