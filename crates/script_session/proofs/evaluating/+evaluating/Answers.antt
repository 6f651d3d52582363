use Rattle.{std.specs.{Borrow.{Bor}, Prelude.{codes}}, script_state.{proofs.{cells.Common.{rules, refl, false, Err, ◌≡◌, sym, ◌∙◌, ap, subst, Some, None, arith, Option, append-nil, List, is_some, IfSome, Text}, Evaluations.{evaluates_by, apart, flat, spent, known_after, seen_after, stops, goes_on, adds, makes, stays, forms, knows_none, writes_out}, Worlds.{of_value, of_items, of_argument, of_pairs, of_arguments, of_subscript, seen_kept, keeps_both, brackets_seen, brackets_kept}, Rides.{cost_nothing, then_gives}, laws.{FormFaults.{sign_result_fault, infix_result_fault, length_result_fault}, SelectFaults.{select_result_fault}, CallFaults.{call_result_fault}}}, specs.{language.{Tree.{bare, named, keyed}, Depth.{depth, step_depth, sub_depth, optional_expr_depth}}, tables.Value.{Entry, Given, NamedGiven}, call.Signature.{function_named}, method.{Calls.{has_method, has_attribute}, StrCalls.{has_str_method}}, script_tokens.View.{binary_of}, cells.Fault.{wrong_kind}, script.{Reading.{Reads, at_once, gives, then_read}, Expression.{called, where_named}}, Work.{world_of}, frame_calls.Calls.{chain_of, IsKnownBetween}}}, frame_store.{proofs.RowLaws.{item_of-Row, argument_of-Table}, specs.{declared.arguments.{Named.{Named}, Argument.{Argument}}, World.{World, arguments_in, entry_in, subscript_in, IsKnownArgument, AreKnownArguments}}}, script_tree.{specs.View.{expr_of, step_of, arg_of, parts_of, named_parts_of, pair_parts_of, optional_expr, sub_of as view_sub}, proofs.Rows.{expr_of-Make, step_of-Method, step_of-Text, step_of-Group, step_of-Rolling, step_of-Expanding, arg_of-Many, arg_of-Row, arg_of-Table}}, script_session.{specs.{Parts.{brackets_in}, Links.{link_name, between_of, chain_meant}, declared.link.Link.{Link}}, proofs.{MaskLaws.{told, answer_known, frame_known, frame_after, frame_amid, frame_gathered}, Gathering.{gathered, gathers_first, gathers_next, gathers_none}, Refusing.{refuses_kind}, Parts.{reads_items, reads_pairs, reads_arguments, parts_end, pairs_end, no_items, no_pairs, no_arguments, items_push, pairs_push, arguments_push, items_known, pairs_known, arguments_known, key_known, span_known, row_known, table_known}, Trees.{part_depth, sub_of-Span, step_of-Access}}}}
use Rattle.script_state.specs.method.Calls as calls
use Rattle.script_session.proofs.evaluating.+evaluating.Goals as goal

pub evaluate-returns-in-Name : goal.evaluate-returns-in-Name
evaluate-returns-in-Name g t c = rw c.in-Name.is (c.named.ensures _ _)

pub evaluate-returns-in-Literal : goal.evaluate-returns-in-Literal
evaluate-returns-in-Literal g t c =
    let x = c.literal.ensures in
    rw c.in-Literal.is (told _ (writes_out c.args.work.now _ _ _ x.names x.kept x.blocks x.tab x.value x.found x.memory))

pub evaluate-returns-in-Paren : goal.evaluate-returns-in-Paren
evaluate-returns-in-Paren g t c = rw (c.in-Paren.is, ← c.deref-in-Paren.ensures) c.evaluate-in-Paren.ensures

pub evaluate-returns-in_err-value-in-Unary : goal.evaluate-returns-in_err-value-in-Unary
evaluate-returns-in_err-value-in-Unary g t c = rw (c.in-Unary.is, ← c.deref.ensures) (stops _ c.in_err-value-in-Unary.ensures (search))

pub evaluate-returns-in_ok-value-in-Unary : goal.evaluate-returns-in_ok-value-in-Unary
evaluate-returns-in_ok-value-in-Unary g t c =
    rw (c.in-Unary.is, ← c.deref.ensures) (told _ (goes_on _ c.in_ok-value-in-Unary.ensures (forms _ _ (search sign_result_fault) c.evaluated.ensures c.sign.ensures)))

pub evaluate-returns-in_err-a-in-Infix : goal.evaluate-returns-in_err-a-in-Infix
evaluate-returns-in_err-a-in-Infix g t c = rw (c.in-Infix.is, ← c.deref-in-Infix.ensures) (stops _ c.in_err-a-in-Infix.ensures (search))

pub evaluate-returns-in_err-b-in-Infix : goal.evaluate-returns-in_err-b-in-Infix
evaluate-returns-in_err-b-in-Infix g t c =
    rw (c.in-Infix.is, ← c.deref-in-Infix.ensures, ← c.deref-in-Infix-2.ensures) (goes_on _ c.in_ok-a-in-Infix.ensures (stops _ (rw (frame_after c.in_ok-a-in-Infix.ensures _ c.requires) at c.in_err-b-in-Infix.ensures) (search)))

pub evaluate-infix-requires : goal.evaluate-infix-requires
evaluate-infix-requires g t c =
    let y = c.in_ok-b-in-Infix.ensures in
    record { left = known_after y of_value (answer_known _ _ _ _ c.in_ok-a-in-Infix.ensures.found); right = answer_known _ _ _ _ y.found }

pub evaluate-returns-in_ok-b-in-Infix : goal.evaluate-returns-in_ok-b-in-Infix
evaluate-returns-in_ok-b-in-Infix g t c =
    let x = c.in_ok-a-in-Infix.ensures in
    let y = c.in_ok-b-in-Infix.ensures in
    rw (c.in-Infix.is, ← c.deref-in-Infix.ensures, ← c.deref-in-Infix-2.ensures) (told _ (goes_on _ x (goes_on _ (rw (frame_after x _ c.requires) at y) (rw (← seen_after y of_value (answer_known _ _ _ _ x.found))
    (forms _ _ (infix_result_fault (binary_of c.in-Infix.op) _ (entry_in (world_of c.evaluate-in-Infix-2.new.work) c.in_ok-b-in-Infix.b)) c.evaluated-in-Infix.ensures c.infix.ensures)))))

pub evaluate-evaluate-requires-in-Infix-2 : goal.evaluate-evaluate-requires-in-Infix-2
evaluate-evaluate-requires-in-Infix-2 g t c =
    let deep = ap (λ x. depth (expr_of x)) c.in-Infix.is in
    let within = frame_known c.in_ok-a-in-Infix.ensures _ c.requires in
    grind arith

pub evaluate-after-requires : goal.evaluate-after-requires
evaluate-after-requires g t c =
    let x = c.in_ok-on-in-After.ensures in
    let on = answer_known _ _ _ _ x.found in
    let within = frame_known x _ c.requires in
    grind arith

pub evaluate-returns-in_err-on-in-After : goal.evaluate-returns-in_err-on-in-After
evaluate-returns-in_err-on-in-After g t c = rw (c.in-After.is, ← c.deref-in-After.ensures) (stops _ c.in_err-on-in-After.ensures (search))

pub evaluate-returns-in_ok-on-in-After : goal.evaluate-returns-in_ok-on-in-After
evaluate-returns-in_ok-on-in-After g t c =
    let x = c.in_ok-on-in-After.ensures in
    rw (c.in-After.is, ← c.deref-in-After.ensures, ← c.deref-in-After-2.ensures) (told _ (goes_on _ x (rw (frame_after x _ c.requires) at c.after.ensures)))

pub evaluate-returns-in_err-value-in-Len : goal.evaluate-returns-in_err-value-in-Len
evaluate-returns-in_err-value-in-Len g t c = rw (c.in-Len.is, ← c.deref-in-Len.ensures) (stops _ c.in_err-value-in-Len.ensures (search))

pub evaluate-returns-in_ok-value-in-Len : goal.evaluate-returns-in_ok-value-in-Len
evaluate-returns-in_ok-value-in-Len g t c =
    rw (c.in-Len.is, ← c.deref-in-Len.ensures) (told _ (goes_on _ c.in_ok-value-in-Len.ensures (evaluates_by (forms _ _ (search length_result_fault) c.evaluated-in-Len.ensures c.length.ensures) (λ fs. cost_nothing _))))

pub evaluate-arguments-requires : goal.evaluate-arguments-requires
evaluate-arguments-requires g t c =
    let deep = ap depth (ap expr_of c.in-Make.is ∙ expr_of-Make _ _) in
    grind arith

pub evaluate-returns-in_err-function-in-Make : goal.evaluate-returns-in_err-function-in-Make
evaluate-returns-in_err-function-in-Make g t c =
    rw (ap expr_of c.in-Make.is ∙ expr_of-Make _ _) (knows_none _ _ (is_some (function_named c.in-Make.function)) _ (grind arith) c.from_residual-in_err-function-in-Make.ensures.1)

pub evaluate-returns-in_err-args-in-Make : goal.evaluate-returns-in_err-args-in-Make
evaluate-returns-in_err-args-in-Make g t c =
    rw (ap expr_of c.in-Make.is ∙ expr_of-Make _ _, ap is_some (rw c.as_str.ensures at c.in_ok-function-in-Make.ensures.known)) (stops _ c.in_err-args-in-Make.ensures (search))

pub evaluate-returns-in_ok-args-in-Make : goal.evaluate-returns-in_ok-args-in-Make
evaluate-returns-in_ok-args-in-Make g t c =
    let named = rw c.as_str.ensures at c.in_ok-function-in-Make.ensures.known in
    rw (ap expr_of c.in-Make.is ∙ expr_of-Make _ _, ap is_some named) (told _ (goes_on _ c.in_ok-args-in-Make.ensures (c.call.ensures c.in-Make.function named)))

pub after-returns-in_err-key-in-Item : goal.after-returns-in_err-key-in-Item
after-returns-in_err-key-in-Item g t c = rw c.in-Item.is (stops _ c.in_err-key-in-Item.ensures (search))

pub after-select-requires : goal.after-select-requires
after-select-requires g t c =
    let x = c.in_ok-key-in-Item.ensures in
    record { on = known_after x of_value c.requires.on; first = key_known _ _ x.found; second = tt }

pub after-returns-in_ok-key-in-Item : goal.after-returns-in_ok-key-in-Item
after-returns-in_ok-key-in-Item g t c =
    let x = c.in_ok-key-in-Item.ensures in
    rw (c.in-Item.is, ← seen_after x of_value c.requires.on) (goes_on _ x (forms _ _ (select_result_fault (entry_in (world_of c.given.new.work) c.args.on) _ _ _) c.evaluated.ensures c.select.ensures))

pub after-returns-in_err-first-in-Access : goal.after-returns-in_err-first-in-Access
after-returns-in_err-first-in-Access g t c =
    rw (ap step_of c.in-Access.is ∙ step_of-Access _ _ _) (apart _ _ _ (stops _ c.in_err-first-in-Access.ensures (search)))

pub after-select-requires-in-Access : goal.after-select-requires-in-Access
after-select-requires-in-Access g t c =
    let x = c.in_ok-first-in-Access.ensures in
    record { on = known_after x of_value c.requires.on; first = x.found.0; second = x.found.1 }

pub after-returns-in_ok-first-in-Access : goal.after-returns-in_ok-first-in-Access
after-returns-in_ok-first-in-Access g t c =
    let x = c.in_ok-first-in-Access.ensures in
    rw (ap step_of c.in-Access.is ∙ step_of-Access _ _ _, ← c.selector_of.ensures, ← seen_after x of_value c.requires.on) (apart _ _ _ (goes_on _ x
    (forms _ _ (select_result_fault (entry_in (world_of c.subscripts.new.work) c.args.on) _ _ _) c.evaluated-in-Access.ensures c.select-in-Access.ensures)))

pub after-arguments-requires : goal.after-arguments-requires
after-arguments-requires g t c =
    let deep = ap step_depth (ap step_of c.in-Method.is ∙ step_of-Method _ _) in
    grind arith

pub after-returns-in_err-args-in-Method : goal.after-returns-in_err-args-in-Method
after-returns-in_err-args-in-Method g t c =
    let asks = rw c.as_str.ensures at (sym (c.is_query.ensures c.args.work.now.dict) ∙ c.if-is_query.true) in
    rw (ap step_of c.in-Method.is ∙ step_of-Method _ _, asks) (stops _ c.in_err-args-in-Method.ensures (search))

pub after-asked-requires : goal.after-asked-requires
after-asked-requires g t c =
    let x = c.in_ok-args-in-Method.ensures in
    λ κs within. (omega (arith, c.decreases), (search, (known_after x of_value c.requires.on, x.found)))

pub after-returns-then-is_query : goal.after-returns-then-is_query
after-returns-then-is_query g t c =
    let asks = rw c.as_str.ensures at (sym (c.is_query.ensures c.args.work.now.dict) ∙ c.if-is_query.true) in
    let x = c.in_ok-args-in-Method.ensures in
    rw (ap step_of c.in-Method.is ∙ step_of-Method _ _, asks) (goes_on _ x (rw (frame_after x _ c.requires.frame, seen_after x of_value c.requires.on) at c.asked.ensures))

pub after-arguments-requires-in-Method : goal.after-arguments-requires-in-Method
after-arguments-requires-in-Method g t c =
    let deep = ap step_depth (ap step_of c.in-Method.is ∙ step_of-Method _ _) in
    λ κs within. (omega (arith, deep, c.decreases), (search, c.requires.frame))

pub after-returns-in_err-method-in-Method : goal.after-returns-in_err-method-in-Method
after-returns-in_err-method-in-Method g t c =
    let asks = rw c.as_str.ensures at (sym (c.is_query.ensures c.args.work.now.dict) ∙ c.if-is_query.false) in
    rw (ap step_of c.in-Method.is ∙ step_of-Method _ _, asks) (knows_none _ _ (has_method (entry_in (world_of c.args.work.now) c.args.on) c.in-Method.name) _ (grind arith) c.from_residual-in_err-method-in-Method.ensures.1)

pub after-returns-in_err-args-in-Method-2 : goal.after-returns-in_err-args-in-Method-2
after-returns-in_err-args-in-Method-2 g t c =
    let asks = rw c.as_str.ensures at (sym (c.is_query.ensures c.args.work.now.dict) ∙ c.if-is_query.false) in
    rw (ap step_of c.in-Method.is ∙ step_of-Method _ _, asks, rw c.as_str-in-Method.ensures at (c.in_ok-method-in-Method.ensures.known c.args.work.now.dict)) (stops _ c.in_err-args-in-Method-2.ensures (search))

pub after-method-requires : goal.after-method-requires
after-method-requires g t c =
    let x = c.in_ok-args-in-Method-2.ensures in
    record {
      on = known_after x of_value c.requires.on;
      named = rw (seen_after x of_value c.requires.on, c.as_str-in-Method-2.ensures) (rw c.as_str-in-Method.ensures at (c.in_ok-method-in-Method.ensures.named c.args.work.now.dict));
      arguments = x.found;
    }

pub after-returns-in_ok-args-in-Method-2 : goal.after-returns-in_ok-args-in-Method-2
after-returns-in_ok-args-in-Method-2 g t c =
    let asks = rw c.as_str.ensures at (sym (c.is_query.ensures c.args.work.now.dict) ∙ c.if-is_query.false) in
    let x = c.in_ok-args-in-Method-2.ensures in
    rw (ap step_of c.in-Method.is ∙ step_of-Method _ _, asks, rw c.as_str-in-Method.ensures at (c.in_ok-method-in-Method.ensures.known c.args.work.now.dict))
    (rw (← seen_after x of_value c.requires.on, ← c.as_str-in-Method-2.ensures) (goes_on _ x
    (forms _ _ (call_result_fault (entry_in (world_of c.arguments-in-Method.new.work) c.args.on) (calls.plain c.as_str-in-Method-2.result.now) _) c.evaluated-in-Method.ensures c.method.ensures)))

pub asked-returns-in-Some : goal.asked-returns-in-Some
asked-returns-in-Some g t c = rw c.in-Some.is (knows_none (λ files s. at_once (Err wrong_kind)) _ false (codes "query") c.no_attribute.ensures refl)

pub asked-returns-in_err-mask-in-None : goal.asked-returns-in_err-mask-in-None
asked-returns-in_err-mask-in-None g t c = rw c.in-None.is (stops _ (c.in_err-mask-in-None.ensures _ _) (search))

pub asked-evaluate-requires : goal.asked-evaluate-requires
asked-evaluate-requires g t c =
    let x = c.in_ok-mask-in-None.ensures c.args.names.now (g.F.Files.seen c.args.files.now) in
    let most = rw c.in-None.is at c.decreases in
    λ κs within. (omega (arith, x.found, most), (search, c.requires.on))

pub asked-returns-in_err-chosen-in-None : goal.asked-returns-in_err-chosen-in-None
asked-returns-in_err-chosen-in-None g t c = rw c.in-None.is (goes_on _ (c.in_ok-mask-in-None.ensures _ _) (stops _ c.in_err-chosen-in-None.ensures (search)))

pub asked-rows_of-requires-clause-on : goal.asked-rows_of-requires-clause-on
asked-rows_of-requires-clause-on g t c = known_after c.in_ok-chosen-in-None.ensures of_value c.requires.on

pub asked-returns-in_ok-chosen-in-None : goal.asked-returns-in_ok-chosen-in-None
asked-returns-in_ok-chosen-in-None g t c =
    let y = c.in_ok-chosen-in-None.ensures in
    rw c.in-None.is (goes_on _ (c.in_ok-mask-in-None.ensures _ _) (goes_on _ y (rw (seen_after y of_value c.requires.on) at (c.rows_of.ensures c.args.names.now (g.F.Files.seen c.evaluate.new.files)))))

pub after-returns-in_err-expect_texts-in-Text : goal.after-returns-in_err-expect_texts-in-Text
after-returns-in_err-expect_texts-in-Text g t c =
    rw (ap step_of c.in-Text.is ∙ step_of-Text _ _) (knows_none _ _ (has_attribute (entry_in (world_of c.args.work.now) c.args.on) (codes "str")) _ (grind arith) c.from_residual-in_err-expect_texts-in-Text.ensures.1)

pub after-returns-in_err-expect_str_method-in-Text : goal.after-returns-in_err-expect_str_method-in-Text
after-returns-in_err-expect_str_method-in-Text g t c =
    rw (ap step_of c.in-Text.is ∙ step_of-Text _ _, c.in_ok-expect_texts-in-Text.ensures.known c.args.work.now.dict) (knows_none _ _ (has_str_method c.in-Text.name) _ (grind arith) c.from_residual-in_err-expect_str_method-in-Text.ensures.1)

pub after-arguments-requires-in-Text : goal.after-arguments-requires-in-Text
after-arguments-requires-in-Text g t c =
    let deep = ap step_depth (ap step_of c.in-Text.is ∙ step_of-Text _ _) in
    grind arith

pub after-returns-in_err-args-in-Text : goal.after-returns-in_err-args-in-Text
after-returns-in_err-args-in-Text g t c =
    rw (ap step_of c.in-Text.is ∙ step_of-Text _ _, c.in_ok-expect_texts-in-Text.ensures.known c.args.work.now.dict, rw c.as_str-in-Text.ensures at c.in_ok-expect_str_method-in-Text.ensures.known)
    (stops _ c.in_err-args-in-Text.ensures (search))

pub after-on_texts-requires : goal.after-on_texts-requires
after-on_texts-requires g t c =
    let x = c.in_ok-args-in-Text.ensures in
    record { on = known_after x of_value c.requires.on; arguments = x.found }

pub after-returns-in_ok-args-in-Text : goal.after-returns-in_ok-args-in-Text
after-returns-in_ok-args-in-Text g t c =
    let x = c.in_ok-args-in-Text.ensures in
    rw (ap step_of c.in-Text.is ∙ step_of-Text _ _, c.in_ok-expect_texts-in-Text.ensures.known c.args.work.now.dict, rw c.as_str-in-Text.ensures at c.in_ok-expect_str_method-in-Text.ensures.known)
    (rw (← seen_after x of_value c.requires.on, ← c.as_str-in-Text-2.ensures) (goes_on _ x
    (forms _ _ (call_result_fault (entry_in (world_of c.arguments-in-Text.new.work) c.args.on) (calls.on_texts c.as_str-in-Text-2.result.now) _) c.evaluated-in-Text.ensures c.on_texts.ensures)))

-- what a chain is seen as
chain_seen : (w : World) (link : Link) (args : Bor (List Named)) (by : Bor (Option Argument)) (name : Text) → chain_of w (between_of link args by) name ≡ chain_meant link (arguments_in w args.now) (brackets_in w by.now) name
chain_seen = grind arith

-- its arguments and brackets are known
chain_known : (w : World) (link : Link) (args : Bor (List Named)) (by : Bor (Option Argument)) → AreKnownArguments w args.now → IfSome by.now (IsKnownArgument w) → IsKnownBetween w (between_of link args by)
chain_known = grind arith

-- a call without brackets reads nothing in their place
no_brackets : (v : Entry) (n : Text) (chain : List NamedGiven → calls.ChainValue) (args more : Reads (List NamedGiven)) → where_named (has_method v n) n (then_read args (λ g. then_read more (called v (chain g))))
    ≡ where_named (has_method v n) n (then_read args (λ g. then_read (gives None) (λ (h : Option Given). then_read more (called v (chain g)))))
no_brackets = search then_gives

pub after-through-requires : goal.after-through-requires
after-through-requires g t c =
    let deep = ap step_depth (ap step_of c.in-Group.is ∙ step_of-Group _ _ _ _) in
    grind arith

pub after-through-requires-in-Rolling : goal.after-through-requires-in-Rolling
after-through-requires-in-Rolling g t c =
    let deep = ap step_depth (ap step_of c.in-Rolling.is ∙ step_of-Rolling _ _ _) in
    rw c.linked-call-in-Rolling.ensures (λ κs within. (omega (arith, deep, c.decreases), search))

pub after-through-requires-in-Expanding : goal.after-through-requires-in-Expanding
after-through-requires-in-Expanding g t c =
    let deep = ap step_depth (ap step_of c.in-Expanding.is ∙ step_of-Expanding _ _ _) in
    rw c.linked-call-in-Expanding.ensures (λ κs within. (omega (arith, deep, c.decreases), search))

pub after-returns-in-Group : goal.after-returns-in-Group
after-returns-in-Group g t c = rw (ap step_of c.in-Group.is ∙ step_of-Group _ _ _ _) (rw c.linked-call.ensures at c.through.ensures)

pub after-returns-in-Rolling : goal.after-returns-in-Rolling
after-returns-in-Rolling g t c =
    rw (ap step_of c.in-Rolling.is ∙ step_of-Rolling _ _ _) (evaluates_by (rw c.linked-call-in-Rolling.ensures at c.through-in-Rolling.ensures) (λ fs. no_brackets _ _ (λ (before : List NamedGiven). calls.rolling before _) _ _))

pub after-returns-in-Expanding : goal.after-returns-in-Expanding
after-returns-in-Expanding g t c =
    rw (ap step_of c.in-Expanding.is ∙ step_of-Expanding _ _ _) (evaluates_by (rw c.linked-call-in-Expanding.ensures at c.through-in-Expanding.ensures) (λ fs. no_brackets _ _ (λ (before : List NamedGiven). calls.expanding before _) _ _))

pub through-returns-in_err-expect_method : goal.through-returns-in_err-expect_method
through-returns-in_err-expect_method g t c =
    knows_none _ _ (has_method (entry_in (world_of c.args.work.now) c.args.on) (link_name c.args.call.link)) _ (grind arith) c.from_residual.ensures.1

pub through-returns-in_err-args : goal.through-returns-in_err-args
through-returns-in_err-args g t c =
    rw (rw c.name.ensures at (c.in_ok-expect_method.ensures.known c.args.work.now.dict)) (stops _ c.in_err-args.ensures (search))

pub through-brackets-requires : goal.through-brackets-requires
through-brackets-requires g t c =
    let within = frame_known c.in_ok-args.ensures _ c.requires.frame in
    grind arith

pub through-arguments-requires-2 : goal.through-arguments-requires-2
through-arguments-requires-2 g t c =
    let within = frame_known c.in_ok-by.ensures _ (frame_known c.in_ok-args.ensures _ c.requires.frame) in
    grind arith

pub through-returns-in_err-by : goal.through-returns-in_err-by
through-returns-in_err-by g t c =
    let x = c.in_ok-args.ensures in
    rw (rw c.name.ensures at (c.in_ok-expect_method.ensures.known c.args.work.now.dict)) (goes_on _ x (stops _ (rw (frame_after x _ c.requires.frame) at c.in_err-by.ensures) (search)))

pub through-returns-in_err-more : goal.through-returns-in_err-more
through-returns-in_err-more g t c =
    let x = c.in_ok-args.ensures in
    let y = c.in_ok-by.ensures in
    rw (rw c.name.ensures at (c.in_ok-expect_method.ensures.known c.args.work.now.dict))
    (goes_on _ x (goes_on _ (rw (frame_after x _ c.requires.frame) at y) (stops _ (rw (frame_after y _ (frame_known x _ c.requires.frame), frame_after x _ c.requires.frame) at c.in_err-more.ensures) (search))))

pub through-chained-requires : goal.through-chained-requires
through-chained-requires g t c =
    let x = c.in_ok-args.ensures in
    let y = c.in_ok-by.ensures in
    let z = c.in_ok-more.ensures in
    let args = known_after z of_arguments (known_after y of_arguments x.found) in
    let by = brackets_kept (world_of c.brackets.new.work) (world_of c.arguments-2.new.work) c.brackets.new.work.settled c.arguments-2.new.work.settled z.kept c.in_ok-by.by y.found in
    record {
      on = known_after z of_value (known_after y of_value (known_after x of_value c.requires.on));
      before = subst (IsKnownBetween (world_of c.arguments-2.new.work)) (sym c.between-between.ensures) (search (chain_known (world_of c.arguments-2.new.work)));
      arguments = z.found;
    }

pub through-returns : goal.through-returns
through-returns g t c =
    let p = c.arguments.new.work in
    let q = c.brackets.new.work in
    let w = c.arguments-2.new.work in
    let x = c.in_ok-args.ensures in
    let y = c.in_ok-by.ensures in
    let z = c.in_ok-more.ensures in
    let kept = keeps_both _ _ _ y.kept z.kept in
    let on = seen_kept (world_of c.args.work.now) (world_of w) c.args.work.now.settled w.settled (keeps_both _ _ _ x.kept kept) of_value c.requires.on in
    let args = seen_kept (world_of p) (world_of w) p.settled w.settled kept of_arguments x.found in
    let by : brackets_in (world_of w) c.in_ok-by.by ≡ brackets_in (world_of q) c.in_ok-by.by = brackets_seen (world_of q) (world_of w) q.settled w.settled z.kept c.in_ok-by.by y.found in
    let name = c.as_str.result.now in
    let chained = (λ i. chain_of (world_of w) (c.between-between.ensures i) name) ∙ chain_seen (world_of w) _ _ _ _ ∙ (λ i. chain_meant c.args.call.link (args i) (by i) (c.as_str.ensures i)) in
    rw (rw c.name.ensures at (c.in_ok-expect_method.ensures.known c.args.work.now.dict)) (goes_on _ x (goes_on _ (rw (frame_after x _ c.requires.frame) at y) (goes_on _ (rw (frame_after y _ (frame_known x _ c.requires.frame), frame_after x _ c.requires.frame) at z) (rw (← on, ← chained)
    (forms _ _ (call_result_fault (entry_in (world_of w) c.args.on) (chain_of (world_of w) c.between-between.result name) _) c.evaluated.ensures c.chained.ensures)))))

pub subscripts-returns-in_err-first : goal.subscripts-returns-in_err-first
subscripts-returns-in_err-first g t c = stops _ c.in_err-first.ensures (search)

pub subscripts-sub-requires-in-Some : goal.subscripts-sub-requires-in-Some
subscripts-sub-requires-in-Some g t c =
    let within = frame_known c.in_ok-first.ensures _ c.requires in
    grind arith

pub subscripts-returns-in_err-second-in-Some : goal.subscripts-returns-in_err-second-in-Some
subscripts-returns-in_err-second-in-Some g t c =
    rw c.in-Some.is (goes_on _ c.in_ok-first.ensures (flat _ _ _ (stops _ (rw (frame_after c.in_ok-first.ensures _ c.requires) at c.in_err-second-in-Some.ensures) (search))))

pub subscripts-returns-in_ok-second-in-Some : goal.subscripts-returns-in_ok-second-in-Some
subscripts-returns-in_ok-second-in-Some g t c =
    let x = c.in_ok-first.ensures in
    let y = c.in_ok-second-in-Some.ensures in
    rw c.in-Some.is (goes_on _ x (flat _ _ _ (makes _ (rw (frame_after x _ c.requires) at y) (known_after y of_subscript x.found, y.found) (λ i. (seen_after y of_subscript x.found i, Some (subscript_in (world_of c.sub-in-Some.new.work) c.in_ok-second-in-Some.second))))))

pub subscripts-returns-in-None : goal.subscripts-returns-in-None
subscripts-returns-in-None g t c = rw c.in-None.is (goes_on _ c.in_ok-first.ensures (stays _ (c.in_ok-first.ensures.found, tt)))

pub sub-returns-in_err-key-in-Key : goal.sub-returns-in_err-key-in-Key
sub-returns-in_err-key-in-Key g t c = rw c.in-Key.is (stops _ c.in_err-key-in-Key.ensures (search))

pub sub-returns-in_ok-key-in-Key : goal.sub-returns-in_ok-key-in-Key
sub-returns-in_ok-key-in-Key g t c =
    let x = c.in_ok-key-in-Key.ensures in
    rw c.in-Key.is (makes _ x (key_known _ _ x.found) refl)

pub sub-returns-in_err-from-in-Span : goal.sub-returns-in_err-from-in-Span
sub-returns-in_err-from-in-Span g t c = rw (ap view_sub c.in-Span.is ∙ sub_of-Span _ _ _) (stops _ c.in_err-from-in-Span.ensures (search))

pub sub-bound-requires-in-Span : goal.sub-bound-requires-in-Span
sub-bound-requires-in-Span g t c =
    let deep = ap sub_depth (ap view_sub c.in-Span.is ∙ sub_of-Span _ _ _) in
    λ κs within. (omega (arith, deep, c.decreases), (search, frame_known c.in_ok-from-in-Span.ensures _ c.requires))

pub sub-evaluate-requires : goal.sub-evaluate-requires
sub-evaluate-requires g t c =
    let deep = ap sub_depth (ap view_sub c.in-Span.is ∙ sub_of-Span _ _ _) in
    let by = ap (λ by. optional_expr_depth (optional_expr by)) c.in-Some.is in
    λ κs within. (omega (arith, deep, by, c.decreases), (search, frame_known c.in_ok-to-in-Span.ensures _ (frame_known c.in_ok-from-in-Span.ensures _ c.requires)))

pub sub-returns-in_err-to-in-Span : goal.sub-returns-in_err-to-in-Span
sub-returns-in_err-to-in-Span g t c =
    rw (ap view_sub c.in-Span.is ∙ sub_of-Span _ _ _) (goes_on _ c.in_ok-from-in-Span.ensures (stops _ (rw (frame_after c.in_ok-from-in-Span.ensures _ c.requires) at c.in_err-to-in-Span.ensures) (search)))

pub sub-returns-in_err-by-in-Some : goal.sub-returns-in_err-by-in-Some
sub-returns-in_err-by-in-Some g t c =
    let x = c.in_ok-from-in-Span.ensures in
    let y = c.in_ok-to-in-Span.ensures in
    rw (ap view_sub c.in-Span.is ∙ sub_of-Span _ _ _, c.in-Some.is) (goes_on _ x (goes_on _ (rw (frame_after x _ c.requires) at y)
    (flat _ _ _ (stops _ (rw (frame_after y _ (frame_known x _ c.requires), frame_after x _ c.requires) at c.in_err-by-in-Some.ensures) (search)))))

pub sub-returns-in_ok-by-in-Some : goal.sub-returns-in_ok-by-in-Some
sub-returns-in_ok-by-in-Some g t c =
    let x = c.in_ok-from-in-Span.ensures in
    let y = c.in_ok-to-in-Span.ensures in
    let z = c.in_ok-by-in-Some.ensures in
    let from = known_after y of_argument x.found in
    rw (ap view_sub c.in-Span.is ∙ sub_of-Span _ _ _, c.in-Some.is) (goes_on _ x (goes_on _ (rw (frame_after x _ c.requires) at y) (flat _ _ _ (makes _ (rw (frame_after y _ (frame_known x _ c.requires), frame_after x _ c.requires) at z)
    (span_known _ _ _ _ (known_after z of_argument from) (known_after z of_argument y.found) (grind (arith, answer_known)))
    (cc (seen_after y of_argument x.found, seen_after z of_argument from, seen_after z of_argument y.found))))))

pub sub-returns-in-None : goal.sub-returns-in-None
sub-returns-in-None g t c =
    let x = c.in_ok-from-in-Span.ensures in
    let y = c.in_ok-to-in-Span.ensures in
    rw (ap view_sub c.in-Span.is ∙ sub_of-Span _ _ _, c.in-None.is) (goes_on _ x (makes _ (rw (frame_after x _ c.requires) at y) (span_known _ _ _ _ (known_after y of_argument x.found) y.found (search)) (cc (seen_after y of_argument x.found))))

pub brackets-returns-in_err-given-in-Some : goal.brackets-returns-in_err-given-in-Some
brackets-returns-in_err-given-in-Some g t c = rw c.in-Some.is (stops _ c.in_err-given-in-Some.ensures (search))

pub brackets-returns-in_ok-given-in-Some : goal.brackets-returns-in_ok-given-in-Some
brackets-returns-in_ok-given-in-Some g t c = rw c.in-Some.is (makes _ c.in_ok-given-in-Some.ensures c.in_ok-given-in-Some.ensures.found refl)

pub brackets-returns-in-None : goal.brackets-returns-in-None
brackets-returns-in-None g t c = rw c.in-None.is (stays _ tt)

pub bound-returns-in-Some : goal.bound-returns-in-Some
bound-returns-in-Some g t c = rw c.in-Some.is c.given.ensures

pub bound-returns-in-None : goal.bound-returns-in-None
bound-returns-in-None g t c = rw c.in-None.is (stays _ record { live = tt; given = λ more. refl })

pub given-returns-in_err-value-in-Expr : goal.given-returns-in_err-value-in-Expr
given-returns-in_err-value-in-Expr g t c = rw c.in-Expr.is (stops _ c.in_err-value-in-Expr.ensures (search))

pub given-returns-in_ok-value-in-Expr : goal.given-returns-in_ok-value-in-Expr
given-returns-in_ok-value-in-Expr g t c = rw c.in-Expr.is (makes _ c.in_ok-value-in-Expr.ensures (grind (arith, answer_known)) refl)

pub given-items-requires : goal.given-items-requires
given-items-requires = grind (arith, arg_of-Many)

pub given-returns-in_err-items-in-Many : goal.given-returns-in_err-items-in-Many
given-returns-in_err-items-in-Many g t c = rw (ap arg_of c.in-Many.is ∙ arg_of-Many _) (stops _ c.in_err-items-in-Many.ensures (search))

pub given-returns-in_ok-items-in-Many : goal.given-returns-in_ok-items-in-Many
given-returns-in_ok-items-in-Many g t c = rw (ap arg_of c.in-Many.is ∙ arg_of-Many _) (makes _ c.in_ok-items-in-Many.ensures (grind arith) refl)

pub given-items-requires-in-Row : goal.given-items-requires-in-Row
given-items-requires-in-Row = grind (arith, arg_of-Row)

pub given-returns-in_err-items-in-Row : goal.given-returns-in_err-items-in-Row
given-returns-in_err-items-in-Row g t c = rw (ap arg_of c.in-Row.is ∙ arg_of-Row _) (stops _ c.in_err-items-in-Row.ensures (search))

pub given-returns-in_ok-items-in-Row : goal.given-returns-in_ok-items-in-Row
given-returns-in_ok-items-in-Row g t c = rw (ap arg_of c.in-Row.is ∙ arg_of-Row _) (makes _ c.in_ok-items-in-Row.ensures (grind arith) refl)

pub given-entries-requires : goal.given-entries-requires
given-entries-requires = grind (arith, arg_of-Table)

pub given-returns-in_err-entries-in-Table : goal.given-returns-in_err-entries-in-Table
given-returns-in_err-entries-in-Table g t c = rw (ap arg_of c.in-Table.is ∙ arg_of-Table _) (stops _ c.in_err-entries-in-Table.ensures (search))

pub given-returns-in_ok-entries-in-Table : goal.given-returns-in_ok-entries-in-Table
given-returns-in_ok-entries-in-Table g t c =
    rw (ap arg_of c.in-Table.is ∙ arg_of-Table _) (makes _ c.in_ok-entries-in-Table.ensures (table_known _ _ c.in_ok-entries-in-Table.ensures.found) (argument_of-Table _ _ _))

pub given-returns-in-Nothing : goal.given-returns-in-Nothing
given-returns-in-Nothing g t c = rw c.in-Nothing.is (stays _ record { live = tt; given = λ more. refl })

pub item-returns-in_err-value-in-Expr : goal.item-returns-in_err-value-in-Expr
item-returns-in_err-value-in-Expr g t c = rw c.in-Expr.is (stops _ c.in_err-value-in-Expr.ensures (search))

pub item-returns-in_ok-value-in-Expr : goal.item-returns-in_ok-value-in-Expr
item-returns-in_ok-value-in-Expr g t c = rw c.in-Expr.is (makes _ c.in_ok-value-in-Expr.ensures (grind (arith, answer_known)) refl)

pub item-items-requires : goal.item-items-requires
item-items-requires = grind (arith, arg_of-Row)

pub item-returns-in_err-items-in-Row : goal.item-returns-in_err-items-in-Row
item-returns-in_err-items-in-Row g t c = rw (ap arg_of c.in-Row.is ∙ arg_of-Row _) (stops _ c.in_err-items-in-Row.ensures (search))

pub item-returns-in_ok-items-in-Row : goal.item-returns-in_ok-items-in-Row
item-returns-in_ok-items-in-Row g t c =
    rw (ap arg_of c.in-Row.is ∙ arg_of-Row _) (makes _ c.in_ok-items-in-Row.ensures (row_known _ _ c.in_ok-items-in-Row.ensures.found) (item_of-Row _ _ _))

pub item-returns-in-Many : goal.item-returns-in-Many
item-returns-in-Many g t c = refuses_kind (λ fs. search rules)

pub arguments-loop-i-init : goal.arguments-loop-i-init
arguments-loop-i-init g t c =
    let none = no_arguments (world_of c.args.work.now) _ c.new-arguments.ensures in
    record { known = none.0; gathers = gathers_first none.1 }

pub arguments-given-requires : goal.arguments-given-requires
arguments-given-requires g t c =
    let deep = part_depth named (named_parts_of c.args.args.now) _ _ c.at.ensures in
    λ κs within. (omega (arith, deep, c.decreases), (search, frame_amid c.loop-i.invariant.gathers _ c.requires))

pub arguments-returns-in_err-value : goal.arguments-returns-in_err-value
arguments-returns-in_err-value g t c = gathers_none (reads_arguments _) c.loop-i.invariant.gathers c.at.ensures (rw (frame_gathered c.loop-i.invariant.gathers _ c.requires) at c.in_err-value.ensures) (search)

pub arguments-returns-in_err-name : goal.arguments-returns-in_err-name
arguments-returns-in_err-name g t c = gathers_none (reads_arguments _) c.loop-i.invariant.gathers c.at.ensures (spent (rw (frame_gathered c.loop-i.invariant.gathers _ c.requires) at c.in_ok-value.ensures)) (search)

pub arguments-returns-in_err-push : goal.arguments-returns-in_err-push
arguments-returns-in_err-push g t c = gathers_none (reads_arguments _) c.loop-i.invariant.gathers c.at.ensures (spent (rw (frame_gathered c.loop-i.invariant.gathers _ c.requires) at c.in_ok-value.ensures)) (search)

pub arguments-loop-i-preserved : goal.arguments-loop-i-preserved
arguments-loop-i-preserved g t c =
    let inv = c.loop-i.invariant in
    let u = c.given.new.work in
    let x = c.in_ok-value.ensures in
    let args = c.loop-i.arguments in
    let one : Named = record { name = c.in_ok-name.name; value = c.in_ok-value.value } in
    let push = c.in_ok-push.ensures.ok in
    record {
      known = arguments_known _ args _ one push (known_after x of_arguments inv.known) x.found;
      gathers = gathers_next (reads_arguments _) inv.gathers c.at.ensures _ (rw (frame_gathered inv.gathers _ c.requires) at x)
          (λ l. cc (c.in_ok-name.ensures, seen_after x of_arguments inv.known, arguments_push (world_of u).tables (world_of u).texts args _ one push l));
    }

pub arguments-returns : goal.arguments-returns
arguments-returns g t c =
    gathered (reads_arguments _) c.loop-i.invariant.gathers (omega (arith, c.len-i-end.ensures, c.loop-i-test.false)) (append-nil _) c.loop-i.invariant.known

pub items-loop-i-init : goal.items-loop-i-init
items-loop-i-init g t c =
    let none = no_items (world_of c.args.work.now) _ c.new-items.ensures in
    record { known = none.0; gathers = gathers_first none.1 }

pub items-item-requires : goal.items-item-requires
items-item-requires g t c =
    let deep = part_depth bare (parts_of c.args.parts.now) _ _ c.at.ensures in
    λ κs within. (omega (arith, deep, c.decreases), (search, frame_amid c.loop-i.invariant.gathers _ c.requires))

pub items-returns-in_err-item : goal.items-returns-in_err-item
items-returns-in_err-item g t c = gathers_none (reads_items _) c.loop-i.invariant.gathers c.at.ensures (rw (frame_gathered c.loop-i.invariant.gathers _ c.requires) at c.in_err-item.ensures) (search)

pub items-returns-in_err-push : goal.items-returns-in_err-push
items-returns-in_err-push g t c = gathers_none (reads_items _) c.loop-i.invariant.gathers c.at.ensures (spent (rw (frame_gathered c.loop-i.invariant.gathers _ c.requires) at c.in_ok-item.ensures)) (search)

pub items-loop-i-preserved : goal.items-loop-i-preserved
items-loop-i-preserved g t c =
    let inv = c.loop-i.invariant in
    let u = c.item.new.work in
    let x = c.in_ok-item.ensures in
    let items = c.loop-i.items.items.items in
    let push = c.in_ok-push.ensures.ok in
    record {
      known = items_known _ items _ _ push (known_after x of_items inv.known) x.found;
      gathers = gathers_next (reads_items _) inv.gathers c.at.ensures _ (rw (frame_gathered inv.gathers _ c.requires) at x)
          (λ l. cc (seen_after x of_items inv.known, items_push (world_of u).tables (world_of u).texts items _ c.in_ok-item.item push l));
    }

pub items-returns : goal.items-returns
items-returns g t c =
    gathered (reads_items _) c.loop-i.invariant.gathers (omega (arith, c.len-i-end.ensures, c.loop-i-test.false)) (parts_end _) c.loop-i.invariant.known

pub entries-loop-i-init : goal.entries-loop-i-init
entries-loop-i-init g t c =
    let none = no_pairs (world_of c.args.work.now) _ c.new-entries.ensures in
    record { known = none.0; gathers = gathers_first none.1 }

pub entries-given-requires : goal.entries-given-requires
entries-given-requires g t c =
    let deep = part_depth keyed (pair_parts_of c.args.pairs.now) _ _ c.at.ensures in
    λ κs within. (omega (arith, deep, c.decreases), (search, frame_amid c.loop-i.invariant.gathers _ c.requires))

pub entries-returns-in_err-value : goal.entries-returns-in_err-value
entries-returns-in_err-value g t c = gathers_none (reads_pairs _) c.loop-i.invariant.gathers c.at.ensures (rw (frame_gathered c.loop-i.invariant.gathers _ c.requires) at c.in_err-value.ensures) (search)

pub entries-returns-in_err-label : goal.entries-returns-in_err-label
entries-returns-in_err-label g t c =
    let e = c.in_err-label.ensures in
    gathers_none (reads_pairs _) c.loop-i.invariant.gathers c.at.ensures (spent (adds c.given.new.work c.key.new.self (rw (frame_gathered c.loop-i.invariant.gathers _ c.requires) at c.in_ok-value.ensures) e.names e.kept e.blocks e.tab)) (grind arith)

pub entries-returns-in_err-push : goal.entries-returns-in_err-push
entries-returns-in_err-push g t c =
    let e = c.in_ok-label.ensures in
    gathers_none (reads_pairs _) c.loop-i.invariant.gathers c.at.ensures (spent (adds c.given.new.work c.key.new.self (rw (frame_gathered c.loop-i.invariant.gathers _ c.requires) at c.in_ok-value.ensures) e.names e.kept e.blocks e.tab)) (search)

pub entries-loop-i-preserved : goal.entries-loop-i-preserved
entries-loop-i-preserved g t c =
    let inv = c.loop-i.invariant in
    let u = c.key.new.self in
    let y = c.in_ok-label.ensures in
    let x = adds c.given.new.work u (rw (frame_gathered inv.gathers _ c.requires) at c.in_ok-value.ensures) y.names y.kept y.blocks y.tab in
    let pairs = c.loop-i.entries.pairs.items in
    let push = c.in_ok-push.ensures.ok in
    record {
      known = pairs_known _ pairs _ _ _ push (known_after x of_pairs inv.known) y.given x.found;
      gathers = gathers_next (reads_pairs _) inv.gathers c.at.ensures _ x
          (λ l. cc (y.label, seen_after x of_pairs inv.known, pairs_push (world_of u).tables (world_of u).texts pairs _ c.in_ok-label.label c.in_ok-value.value push l));
    }

pub entries-returns : goal.entries-returns
entries-returns g t c =
    gathered (reads_pairs _) c.loop-i.invariant.gathers (omega (arith, c.len-i-end.ensures, c.loop-i-test.false)) (pairs_end _) c.loop-i.invariant.known
