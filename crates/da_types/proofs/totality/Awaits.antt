-- In a program that keeps the rules of types, the condition of each alternative of each `await` keeps them.
use Rattle.std.specs.Prelude.{◌≡◌, refl, ℕ, Bool, true, false, ◌&&◌, List, [], ◌∷◌, ◌++◌, map, flat_map, Option, Some, None}
use Rattle.std.proofs.Common.{◌∙◌, ap, sym, subst, inl, inr}
use Rattle.std.proofs.lemmas.Bool.{and_parts}
use Rattle.da_values.specs.Sets.{Has}
use Rattle.da_values.proofs.Members.{of_append, of_map, Has-map, Has-append_left, Has-append_right}
use Rattle.da_lang.specs.declared.program.Alt.{Alt}
use Rattle.da_lang.specs.declared.program.Class.{Class}
use Rattle.da_lang.specs.declared.program.Handler.{Handler}
use Rattle.da_lang.specs.declared.program.Item.{Item}
use Rattle.da_lang.specs.declared.program.ItemKind.{ItemKind, out-ItemKind}
use Rattle.da_lang.specs.declared.program.ItemKind.TheFolds.{map-ItemKind, fold_out-ItemKind, fold_out-Alt, fold_out-Item, fold_out-RBranch}
use Rattle.da_lang.specs.declared.program.ItemKind.TheOpen.{ItemKind-F}
use Rattle.da_lang.specs.declared.program.ItemKind.TheViews.{out-Alt, out-Item, out-RBranch}
use Rattle.da_lang.specs.declared.program.Program.{Program}
use Rattle.da_lang.specs.declared.program.RBranch.{RBranch}
use Rattle.da_lang.specs.declared.query.Query.{Query}
use Rattle.da_lang.specs.declared.tree.MessageDecl.{MessageDecl}
use Rattle.da_lang.specs.Limits.{item_lists}
use Rattle.da_lang.specs.QueryTypes.{cond_holds}
use Rattle.da_lang.specs.Shaped.{IsItemOf, Within, here, deeper, blocks_in}
use Rattle.da_lang.specs.Turns.{kind_of}
use Rattle.da_lang.specs.Typing.{Slots, Breaks, all, unless, known, have_found, handler_breaks, class_breaks, breaks_in, kind_broken, alt_broken, item_breaks, branch_broken, kind_breaks, alt_breaks, item_breaks_step, branch_breaks}

-- lists that are joined to nothing
pub no_left : {A : Type 0} (xs ys : List A) → xs ++ ys ≡ [] → xs ≡ []
no_left [] ys e = refl
no_left (x ∷ xs) ys e = absurd (cc)

pub no_right : {A : Type 0} (xs ys : List A) → xs ++ ys ≡ [] → ys ≡ []
no_right [] ys e = e
no_right (x ∷ xs) ys e = absurd (cc)

pub none_of : {A B : Type 0} (f : A → List B) (xs : List A) → flat_map f xs ≡ [] → (x : A) → Has xs x → f x ≡ []
none_of f [] e x h = absurd h
none_of f (y ∷ ys) e x (inl is) = ap f is ∙ no_left (f y) (flat_map f ys) e
none_of f (y ∷ ys) e x (inr h) = none_of f ys (no_right (f y) (flat_map f ys) e) x h

pub keeps_rule : (line : ℕ) (b : Bool) → unless line b ≡ [] → b ≡ true
keeps_rule line true e = refl
keeps_rule line false e = absurd (cc)

module _ (messages : List MessageDecl) (queries : List Query) (slots : Slots) where
  abbrev item : Item → List ℕ
  item = item_breaks messages queries slots

  abbrev kind : ItemKind → Breaks
  kind = kind_broken messages queries slots

  abbrev alt : Alt → List ℕ
  alt = alt_broken messages queries slots

  abbrev branch : RBranch → List ℕ
  branch = branch_broken messages queries slots

  -- one layer
  kind_layer : (k : ItemKind) → kind k ≡ kind_breaks messages queries slots (map-ItemKind ItemKind Alt Item RBranch Breaks (List ℕ) (List ℕ) (List ℕ) kind alt item branch (out-ItemKind k))
  unfolding kind_broken alt_broken item_breaks branch_broken
  kind_layer k = fold_out-ItemKind Breaks (List ℕ) (List ℕ) (List ℕ) (kind_breaks messages queries slots) (alt_breaks messages queries slots) (item_breaks_step messages queries slots) (branch_breaks messages queries slots) k

  item_layer : (i : Item) → item i ≡ unless (out-Item i).line (kind (out-Item i).kind).rule ++ (kind (out-Item i).kind).blocks
  unfolding kind_broken alt_broken item_breaks branch_broken
  item_layer i = fold_out-Item Breaks (List ℕ) (List ℕ) (List ℕ) (kind_breaks messages queries slots) (alt_breaks messages queries slots) (item_breaks_step messages queries slots) (branch_breaks messages queries slots) i

  alt_layer : (a : Alt) → alt a ≡ unless (out-Alt a).line (cond_holds (known messages queries slots) (out-Alt a).cond [] && have_found messages queries slots (out-Alt a).found (out-Alt a).binds) ++ all (map item (out-Alt a).body)
  unfolding kind_broken alt_broken item_breaks branch_broken
  alt_layer a = fold_out-Alt Breaks (List ℕ) (List ℕ) (List ℕ) (kind_breaks messages queries slots) (alt_breaks messages queries slots) (item_breaks_step messages queries slots) (branch_breaks messages queries slots) a

  branch_ends : (b : RBranch) → branch b ≡ [] → all (map item (out-RBranch b).body) ≡ []
  unfolding kind_broken alt_broken item_breaks branch_broken
  branch_ends b e = no_right _ (all (map item (out-RBranch b).body)) (sym (fold_out-RBranch Breaks (List ℕ) (List ℕ) (List ℕ) (kind_breaks messages queries slots) (alt_breaks messages queries slots) (item_breaks_step messages queries slots) (branch_breaks messages queries slots) b) ∙ e)

  abbrev Keeps : Item → Type 0
  Keeps i = item i ≡ []

  each_keeps : (body : List Item) → all (map item body) ≡ [] → (j : Item) → Has body j → Keeps j
  each_keeps body e j h = none_of (λ part. part) (map item body) e (item j) (Has-map item body j h)

  abbrev pub blocks : ItemKind-F ItemKind Alt Item RBranch → List ℕ
  blocks y = (kind_breaks messages queries slots (map-ItemKind ItemKind Alt Item RBranch Breaks (List ℕ) (List ℕ) (List ℕ) kind alt item branch y)).blocks

  pub blocks_none : (i : Item) → Keeps i → blocks (kind_of i) ≡ []
  blocks_none i e =
      let b = (out-Item i).kind in
      sym (ap (λ (z : Breaks). z.blocks) (kind_layer b)) ∙ no_right (unless (out-Item i).line (kind b).rule) (kind b).blocks (sym (item_layer i) ∙ e)

  -- the one block of a loop or a call
  one_block : (own body : List Item) → all (map item own) ≡ [] → Has (own ∷ []) body → (j : Item) → Has body j → Keeps j
  one_block own body e (inl is) j h = each_keeps own e j (subst (λ z. Has z j) is h)
  one_block own body e (inr h) j k = absurd h

  branch_block : (branches : List RBranch) (other : List Item) (body : List Item) → all (map branch branches ++ map item other) ≡ [] → Has (map (λ b. (out-RBranch b).body) branches ++ other ∷ []) body → (j : Item) → Has body j → Keeps j
  branch_block branches other body e h j k =
      elim (of_append (map (λ b. (out-RBranch b).body) branches) (other ∷ []) body h) [
        | inl there ↦ (
            let (b, among, is) = of_map (λ b. (out-RBranch b).body) branches body there in
            let none : branch b ≡ [] = none_of (λ part. part) (map branch branches ++ map item other) e (branch b) (Has-append_left (map branch branches) (map item other) (branch b) (Has-map branch branches b among)) in
            each_keeps (out-RBranch b).body (branch_ends b none) j (subst (λ z. Has z j) is k))
        | inr there ↦ (
            elim there [
              | inl is ↦ none_of (λ part. part) (map branch branches ++ map item other) e (item j) (Has-append_right (map branch branches) (map item other) (item j) (Has-map item other j (subst (λ z. Has z j) is k)))
              | inr none ↦ absurd none
            ])
      ]

  -- the alternatives of an `await`, with the lines in the block of its timeout
  alt_keeps : (alts : List Alt) (others : List (List ℕ)) → all (map alt alts ++ others) ≡ [] → (a : Alt) → Has alts a → alt a ≡ []
  alt_keeps alts others e a h = none_of (λ part. part) (map alt alts ++ others) e (alt a) (Has-append_left (map alt alts) others (alt a) (Has-map alt alts a h))

  alt_block : (alts : List Alt) (others : List (List ℕ)) (body : List Item) → all (map alt alts ++ others) ≡ [] → Has (map (λ a. (out-Alt a).body) alts) body → (j : Item) → Has body j → Keeps j
  alt_block alts others body e h j k =
      let (a, among, is) = of_map (λ a. (out-Alt a).body) alts body h in
      each_keeps (out-Alt a).body (no_right _ (all (map item (out-Alt a).body)) (sym (alt_layer a) ∙ alt_keeps alts others e a among)) j (subst (λ z. Has z j) is k)

  timeout_block : (alts : List Alt) (own body : List Item) → all (map alt alts ++ map item own) ≡ [] → Has (own ∷ []) body → (j : Item) → Has body j → Keeps j
  timeout_block alts own body e (inl is) j k =
      none_of (λ part. part) (map alt alts ++ map item own) e (item j) (Has-append_right (map alt alts) (map item own) (item j) (Has-map item own j (subst (λ z. Has z j) is k)))
  timeout_block alts own body e (inr none) j k = absurd none

  await_block : (alts : List Alt) (others : List (List ℕ)) (own : List (List Item)) (body : List Item) → all (map alt alts ++ others) ≡ []
      → (Has own body → (j : Item) → Has body j → Keeps j) → Has (map (λ a. (out-Alt a).body) alts ++ own) body → (j : Item) → Has body j → Keeps j
  await_block alts others own body e behind h j k =
      elim (of_append (map (λ a. (out-Alt a).body) alts) own body h) [
        | inl there ↦ alt_block alts others body e there j k
        | inr there ↦ behind there j k
      ]

  block_keeps : (y : ItemKind-F ItemKind Alt Item RBranch) → blocks y ≡ [] → (body : List Item) → Has (blocks_in y) body → (j : Item) → Has body j → Keeps j
  block_keeps (ItemKind-F.If branches other) e body h = branch_block branches other body e h
  block_keeps (ItemKind-F.While x own) e body h = one_block own body e h
  block_keeps (ItemKind-F.For slot x own) e body h = one_block own body e h
  block_keeps (ItemKind-F.Call args own) e body h = one_block own body e h
  block_keeps (ItemKind-F.Await alts None label) e body h = await_block alts [] [] body e (λ none. absurd none) h
  block_keeps (ItemKind-F.Await alts (Some own) label) e body h = await_block alts (map item own) (own ∷ []) body e (timeout_block alts own body e) h
  block_keeps _ e body h = absurd h

  within_keeps : (i : Item) (items : List Item) → Within i items → ((j : Item) → Has items j → Keeps j) → Keeps i
  within_keeps i items (here h) each = each i h
  within_keeps i items (deeper j body there block within) each = within_keeps i body within (block_keeps (kind_of j) (blocks_none j (each j there)) body block)

  -- the condition of an alternative, and what it binds
  pub alt_rule : (a : Alt) → alt a ≡ [] → (cond_holds (known messages queries slots) (out-Alt a).cond [] ≡ true) × (have_found messages queries slots (out-Alt a).found (out-Alt a).binds ≡ true)
  alt_rule a none =
      let rule = keeps_rule (out-Alt a).line _ (no_left _ (all (map item (out-Alt a).body)) (sym (alt_layer a) ∙ none)) in
      and_parts (cond_holds (known messages queries slots) (out-Alt a).cond []) _ rule

  -- the condition of an alternative of a statement that keeps the rules
  alternative_holds : (y : ItemKind-F ItemKind Alt Item RBranch) (alts : List Alt) {timeout : Option (List Item)} {label : Option ℕ} (a : Alt) → y ≡ ItemKind-F.Await alts timeout label → blocks y ≡ [] → Has alts a → cond_holds (known messages queries slots) (out-Alt a).cond [] ≡ true
  alternative_holds y alts a is e h =
      (alt_rule a (alt_keeps alts _ (ap blocks (sym is) ∙ e) a h)).0

  await_holds : (i : Item) (alts : List Alt) {timeout : Option (List Item)} {label : Option ℕ} (a : Alt) → Keeps i → kind_of i ≡ ItemKind-F.Await alts timeout label → Has alts a → cond_holds (known messages queries slots) (out-Alt a).cond [] ≡ true
  await_holds i alts a keeps is h = alternative_holds (kind_of i) alts a is (blocks_none i keeps) h

-- each statement of a class of a program that keeps the rules keeps them
body_keeps : (messages : List MessageDecl) (c : Class) → class_breaks messages c ≡ [] → (items : List Item) → Has (item_lists c) items → (j : Item) → Has items j → item_breaks messages c.queries c.slots j ≡ []
body_keeps messages c e items (inl is) j h = none_of (item_breaks messages c.queries c.slots) (c.setup ++ c.run) (no_left _ _ e) j (Has-append_left c.setup c.run j (subst (λ z. Has z j) is h))
body_keeps messages c e items (inr (inl is)) j h = none_of (item_breaks messages c.queries c.slots) (c.setup ++ c.run) (no_left _ _ e) j (Has-append_right c.setup c.run j (subst (λ z. Has z j) is h))
body_keeps messages c e items (inr (inr there)) j h =
    let (handler, among, is) = of_map (λ (h : Handler). h.body) c.handlers items there in
    let none : handler_breaks messages c.queries c.slots handler ≡ [] = none_of (handler_breaks messages c.queries c.slots) c.handlers (no_right (flat_map (item_breaks messages c.queries c.slots) (c.setup ++ c.run)) _ e) handler among in
    none_of (item_breaks messages c.queries c.slots) handler.body (no_right _ (flat_map (item_breaks messages c.queries c.slots) handler.body) none) j (subst (λ z. Has z j) is h)

pub item_keeps : (p : Program) (c : Class) → breaks_in p ≡ [] → Has p.classes c → (i : Item) → IsItemOf c i → item_breaks p.messages c.queries c.slots i ≡ []
unfolding breaks_in
item_keeps p c e among i (items, there, within) =
    let none : class_breaks p.messages c ≡ [] = none_of (class_breaks p.messages) p.classes (no_left _ _ e) c among in
    within_keeps p.messages c.queries c.slots i items within (body_keeps p.messages c none items there)

pub condition_holds : (p : Program) (c : Class) → breaks_in p ≡ [] → Has p.classes c → (i : Item) → IsItemOf c i → (alts : List Alt) {timeout : Option (List Item)} {label : Option ℕ} (a : Alt) → kind_of i ≡ ItemKind-F.Await alts timeout label → Has alts a → cond_holds (known p.messages c.queries c.slots) (out-Alt a).cond [] ≡ true
condition_holds p c e among i is alts a await h = await_holds p.messages c.queries c.slots i alts a (item_keeps p c e among i is) await h
