-- The lines that break a rule in statements are what these demand on the lines.
use Rattle.std.specs.Prelude.{◌≡◌, refl, ℕ, Bool, true, ◌&&◌, List, [], ◌∷◌, ◌++◌, map, flat_map, Option, Some, None, option_map, unwrap_or}
use Rattle.std.specs.List.{AllByRecursion}
use Rattle.std.proofs.Common.{◌∙◌, ap₂, sym, subst}
use Rattle.da_lang.specs.declared.program.Alt.{Alt}
use Rattle.da_lang.specs.declared.program.Handler.{Handler}
use Rattle.da_lang.specs.declared.program.Item.{Item}
use Rattle.da_lang.specs.declared.program.ItemKind.{ItemKind}
use Rattle.da_lang.specs.declared.program.RBranch.{RBranch}
use Rattle.da_lang.specs.declared.query.Cond.{Cond}
use Rattle.da_lang.specs.declared.query.Query.{Query}
use Rattle.da_lang.specs.declared.tree.MessageDecl.{MessageDecl}
use Rattle.da_lang.specs.QueryTypes.{cond_holds}
use Rattle.da_lang.specs.Typing as typing
use Rattle.da_lang.specs.Typing.{Breaks, Slots, known, unless, kind_broken, alt_broken, item_breaks, branch_broken, handler_breaks, handler_row}
use Rattle.da_lang.proofs.ItemInduction.{ItemCases, items_induction}
use Rattle.da_lang.proofs.typing.TypingAt.{kind_broken-Assign, kind_broken-Add, kind_broken-Del, kind_broken-Send, kind_broken-Output, kind_broken-If, kind_broken-While, kind_broken-For, kind_broken-Call, kind_broken-Await, kind_broken-Label, kind_broken-Pass, alt_broken-of, item_breaks-of, branch_broken-of}
use Rattle.type_table.specs.Fits.{Meaning}
use Rattle.type_demands.specs.declared.demand.Demand.{Demand}
use Rattle.type_demands.specs.declared.demand.LineDemand.{LineDemand}
use Rattle.type_demands.specs.Conds.{cond_sym}
use Rattle.type_demands.specs.Demands.{all_met, at_line}
use Rattle.type_demands.specs.Meets.{Means}
use Rattle.type_demands.specs.Syms.{Context}
use Rattle.type_demands.proofs.FoundLaws.{met_both}
use Rattle.class_demands.specs.Statements as demanded
use Rattle.class_demands.specs.Statements.{KindDemands, have_row, handler_rows, item_demands, kind_demands, alt_demands, branch_demands, handler_demands}
use Rattle.class_demands.proofs.Below.{Below}
use Rattle.class_demands.proofs.PrefixLaws.{Told, told_both, told_line, told_each, Sides, told_sides, sides_both, sides_each}
use Rattle.class_demands.proofs.RuleLaws.{slot_met, element_met, is_element_met, loop_met, truth_met, output_met, send_met, params_met, found_met, row_met, handler_agrees}
use Rattle.class_demands.proofs.StatementsAt.{asks-Assign, asks-Add, asks-Del, asks-Send, asks-Output, asks-If, asks-While, asks-For, asks-Call, asks-Await, asks-Label, asks-Pass, item_asks-of, alt_asks-of, branch_asks-of}

module _ (n : ℕ) (m : Meaning) (headed : ℕ → Bool) (below : Below) (messages : List MessageDecl) (queries : List Query) (slots : Slots) (context : Context) (means : Means m headed (known messages queries slots) context) where
  abbrev Met : List Demand → Bool
  Met ds = all_met m headed ds

  abbrev Says : List ℕ → List LineDemand → Type 0
  Says lines demands = Told n m headed lines demands

  -- a statement itself, and its blocks
  record KindSays (b : Breaks) (k : KindDemands) : Type 0 where
    rule : b.rule ≡ Met k.rule
    blocks : Says b.blocks k.blocks

  by_forms : {b c : Breaks} {k l : KindDemands} → b ≡ c → k ≡ l → KindSays c l → KindSays b k
  by_forms {b} {c} {k} {l} of_breaks of_demands says = subst (λ z. KindSays z k) (sym of_breaks) (subst (λ z. KindSays c z) (sym of_demands) says)

  by_lines : {xs ys : List ℕ} {ds es : List LineDemand} → xs ≡ ys → ds ≡ es → Says ys es → Says xs ds
  by_lines {xs} {ys} {ds} {es} of_lines of_demands says = subst (λ z. Says z ds) (sym of_lines) (subst (λ z. Says ys z) (sym of_demands) says)

  abbrev broken : ItemKind → Breaks
  broken k = kind_broken messages queries slots k

  abbrev lines : Item → List ℕ
  lines i = item_breaks messages queries slots i

  abbrev asks : Item → List LineDemand
  asks i = item_demands context queries i

  plain : (holds : Bool) (ds : List Demand) → holds ≡ Met ds → KindSays (typing.breaks holds []) (demanded.asks ds [])
  plain holds ds is = record { rule = is; blocks = refl }

  -- with one block
  blocked : (holds : Bool) (ds : List Demand) (body : List Item) → holds ≡ Met ds → AllByRecursion (λ i. Says (lines i) (asks i)) body → KindSays (typing.breaks holds (map (item_breaks messages queries slots) body)) (demanded.asks ds (map (item_demands context queries) body))
  blocked holds ds body is each = record {
    rule = is;
    blocks = told_sides n m headed (map (item_breaks messages queries slots) body) (map (item_demands context queries) body) (sides_each n m headed (item_breaks messages queries slots) (item_demands context queries) body each);
  }

  body_says : (body : List Item) → AllByRecursion (λ i. Says (lines i) (asks i)) body → Says (typing.all (map (item_breaks messages queries slots) body)) (demanded.all (map (item_demands context queries) body))
  body_says body each = told_sides n m headed (map (item_breaks messages queries slots) body) (map (item_demands context queries) body) (sides_each n m headed (item_breaks messages queries slots) (item_demands context queries) body each)

  if_says : (branches : List RBranch) (other : List Item) → AllByRecursion (λ b. Says (branch_broken messages queries slots b) (branch_demands context queries b)) branches → AllByRecursion (λ i. Says (lines i) (asks i)) other
      → KindSays (typing.breaks true (map (branch_broken messages queries slots) branches ++ map (item_breaks messages queries slots) other)) (demanded.asks [] (map (branch_demands context queries) branches ++ map (item_demands context queries) other))
  if_says branches other each others = record {
    rule = refl;
    blocks =
        told_sides n m headed (map (branch_broken messages queries slots) branches ++ map (item_breaks messages queries slots) other) (map (branch_demands context queries) branches ++ map (item_demands context queries) other)
        (sides_both n m headed (map (branch_broken messages queries slots) branches) (map (item_breaks messages queries slots) other) (map (branch_demands context queries) branches) (map (item_demands context queries) other)
        (sides_each n m headed (branch_broken messages queries slots) (branch_demands context queries) branches each) (sides_each n m headed (item_breaks messages queries slots) (item_demands context queries) other others));
  }

  late_sides : (timeout : Option (List Item)) → AllByRecursion (λ i. Says (lines i) (asks i)) (unwrap_or timeout [])
      → Sides n m headed (unwrap_or (option_map (map (item_breaks messages queries slots)) timeout) []) (unwrap_or (option_map (map (item_demands context queries)) timeout) [])
  late_sides None each = tt
  late_sides (Some body) each = sides_each n m headed (item_breaks messages queries slots) (item_demands context queries) body each

  await_says : (alts : List Alt) (timeout : Option (List Item)) → AllByRecursion (λ a. Says (alt_broken messages queries slots a) (alt_demands context queries a)) alts → AllByRecursion (λ i. Says (lines i) (asks i)) (unwrap_or timeout [])
      → KindSays (typing.breaks true (map (alt_broken messages queries slots) alts ++ unwrap_or (option_map (map (item_breaks messages queries slots)) timeout) []))
      (demanded.asks [] (map (alt_demands context queries) alts ++ unwrap_or (option_map (map (item_demands context queries)) timeout) []))
  await_says alts timeout each others =
      let late_lines = unwrap_or (option_map (map (item_breaks messages queries slots)) timeout) [] in
      let late_demands = unwrap_or (option_map (map (item_demands context queries)) timeout) [] in
      record {
        rule = refl;
        blocks =
            told_sides n m headed (map (alt_broken messages queries slots) alts ++ late_lines) (map (alt_demands context queries) alts ++ late_demands)
            (sides_both n m headed (map (alt_broken messages queries slots) alts) late_lines (map (alt_demands context queries) alts) late_demands
            (sides_each n m headed (alt_broken messages queries slots) (alt_demands context queries) alts each) (late_sides timeout others));
      }

  -- a header with its block
  head_says : (line : ℕ) (holds binds : Bool) (ds es : List Demand) (body : List Item) → holds ≡ Met ds → binds ≡ Met es → AllByRecursion (λ i. Says (lines i) (asks i)) body
      → Says (unless line (holds && binds) ++ typing.all (map (item_breaks messages queries slots) body)) (at_line line (ds ++ es) ++ demanded.all (map (item_demands context queries) body))
  head_says line holds binds ds es body is bound each =
      told_both n m headed (unless line (holds && binds)) (typing.all (map (item_breaks messages queries slots) body)) (at_line line (ds ++ es)) (demanded.all (map (item_demands context queries) body))
      (told_line n m headed line (holds && binds) (ds ++ es) (ap₂ (λ a b. a && b) is bound ∙ sym (met_both m headed ds es))) (body_says body each)

  cond_met : (x : Cond) → cond_holds (known messages queries slots) x [] ≡ Met (cond_sym context x [])
  cond_met x = below.conds m headed (known messages queries slots) context means x [] [] tt

  item_says_of : (line : ℕ) (b : Breaks) (k : KindDemands) → KindSays b k → Says (unless line b.rule ++ b.blocks) (at_line line k.rule ++ k.blocks)
  item_says_of line b k says = told_both n m headed (unless line b.rule) b.blocks (at_line line k.rule) k.blocks (told_line n m headed line b.rule k.rule says.rule) says.blocks

  abbrev cases : ItemCases
  cases = record {
    Of_kind = λ k. KindSays (broken k) (kind_demands context queries k);
    Of_alt = λ a. Says (alt_broken messages queries slots a) (alt_demands context queries a);
    Of_item = λ i. Says (lines i) (asks i);
    Of_branch = λ b. Says (branch_broken messages queries slots b) (branch_demands context queries b);
    assign = λ slot x. by_forms (kind_broken-Assign messages queries slots slot x) (asks-Assign context queries slot x) (plain _ _ (slot_met m headed below messages queries slots context means slot x));
    add = λ slot x. by_forms (kind_broken-Add messages queries slots slot x) (asks-Add context queries slot x) (plain _ _ (element_met m headed below messages queries slots context means slot x));
    del = λ slot x. by_forms (kind_broken-Del messages queries slots slot x) (asks-Del context queries slot x) (plain _ _ (is_element_met m headed below messages queries slots context means slot x));
    send = λ x to. by_forms (kind_broken-Send messages queries slots x to) (asks-Send context queries x to) (plain _ _ (send_met m headed below messages queries slots context means x to));
    output = λ x. by_forms (kind_broken-Output messages queries slots x) (asks-Output context queries x) (plain _ _ (output_met m headed below messages queries slots context means x));
    if_one = λ branches other each others. by_forms (kind_broken-If messages queries slots branches other) (asks-If context queries branches other) (if_says branches other each others);
    while = λ x body each. by_forms (kind_broken-While messages queries slots x body) (asks-While context queries x body) (blocked _ _ body (truth_met m headed below messages queries slots context means x) each);
    for = λ slot x body each. by_forms (kind_broken-For messages queries slots slot x body) (asks-For context queries slot x body) (blocked _ _ body (loop_met m headed below messages queries slots context means slot x) each);
    call = λ args body each. by_forms (kind_broken-Call messages queries slots args body) (asks-Call context queries args body) (blocked _ _ body (params_met m headed below messages queries slots context means args) each);
    await = λ alts timeout label each others. by_forms (kind_broken-Await messages queries slots alts timeout label) (asks-Await context queries alts timeout label) (await_says alts timeout each others);
    label = λ l. by_forms (kind_broken-Label messages queries slots l) (asks-Label context queries l) (plain true [] refl);
    pass = by_forms (kind_broken-Pass messages queries slots) (asks-Pass context queries) (plain true [] refl);
    alt = λ cond found binds body line each.
        by_lines (alt_broken-of messages queries slots cond found binds body line) (alt_asks-of context queries cond found binds body line)
        (head_says line _ _ _ _ body (cond_met cond) (found_met m headed below messages queries slots context means found binds) each);
    item = λ line kind says. by_lines (item_breaks-of messages queries slots line kind) (item_asks-of context queries line kind) (item_says_of line (broken kind) (kind_demands context queries kind) says);
    branch = λ cond found binds body line each.
        by_lines (branch_broken-of messages queries slots cond found binds body line) (branch_asks-of context queries cond found binds body line)
        (head_says line _ _ _ _ body (truth_met m headed below messages queries slots context means cond) (found_met m headed below messages queries slots context means found binds) each);
  }

  pub items_say : (items : List Item) → Says (flat_map (item_breaks messages queries slots) items) (flat_map (item_demands context queries) items)
  items_say items = told_each n m headed (item_breaks messages queries slots) (item_demands context queries) items (items_induction cases items)

  handler_says : (h : Handler) → Says (handler_breaks messages queries slots h) (handler_demands context queries h)
  handler_says h =
      told_both n m headed _ (flat_map (item_breaks messages queries slots) h.body) (at_line h.line (have_row context queries h.binds (handler_rows context h))) (flat_map (item_demands context queries) h.body)
      (told_line n m headed h.line _ (have_row context queries h.binds (handler_rows context h)) (row_met m headed below messages queries slots context means h.binds (handler_row messages queries h slots) (handler_rows context h) (handler_agrees m headed below messages queries slots context means h)))
      (items_say h.body)

  each_handler : (hs : List Handler) → AllByRecursion (λ h. Says (handler_breaks messages queries slots h) (handler_demands context queries h)) hs
  each_handler [] = tt
  each_handler (h ∷ hs) = (handler_says h, each_handler hs)

  pub handlers_say : (hs : List Handler) → Says (flat_map (handler_breaks messages queries slots) hs) (flat_map (handler_demands context queries) hs)
  handlers_say hs = told_each n m headed (handler_breaks messages queries slots) (handler_demands context queries) hs (each_handler hs)
