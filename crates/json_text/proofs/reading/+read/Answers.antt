use Rattle.std.proofs.Common.{◌≡◌, ◌-◌, ◌<◌, [], ◌∷◌, length, Some, None, sym, ap, ap₂, ◌∙◌, arith, rules}
use Rattle.json.specs.Token.{Token}
use Rattle.json.specs.Json.{parse_map, after_end_array, read_key, items, members, value}
use Rattle.json.specs.Reads.{token_of}
use Rattle.json.proofs.Grammar.{value_is, value-begin_array, value-begin_object, read_key-shorter}
use Rattle.serde_json.specs.Data.{null, boolean, number, string, array, object, put}
use Rattle.serde_json.specs.Read.{of_json, of_items, of_members, converted}
use Rattle.serde_json.specs.View.{number_view}
use Rattle.json_text.specs.View.{view, members_view}
use Rattle.json_text.specs.declared.value.Value.{String, Number, Bool, Null, the_lemmas}
use Rattle.json_text.proofs.Views.{view-Array, view-Object, members_view-push}
use Rattle.json_text.proofs.Tokens.{converted-array, converted-object, item_read, item_refused, items_over, member_read, member_refused, key_refused, members_over, items_before, items_before-no_items, one_more_item, none_before}
use Rattle.json_text.proofs.reading.+read.Goals as goal

pub read-returns-in_err-token-clause-err : goal.read-returns-in_err-token-clause-err
read-returns-in_err-token-clause-err t c refused =
    let empty : c.args.reader.now ≡ [] = grind arith in
    ap (converted of_json) (ap (value c.args.depth) empty ∙ value_is c.args.depth [])

pub read-returns-then-depth-eq0-clause-err : goal.read-returns-then-depth-eq0-clause-err
unfolding value
read-returns-then-depth-eq0-clause-err t c never =
    let first : c.args.reader.now ≡ token_of c.in_ok-token.token ∷ c.next.new.self = grind arith in
    let none : c.args.depth ≡ 0 = omega arith in
    ap (converted of_json) (ap₂ value none (first ∙ ap (λ k. token_of k ∷ c.next.new.self) c.in-BeginArray.is))

pub read-returns-then-depth-eq0-2-clause-err : goal.read-returns-then-depth-eq0-2-clause-err
unfolding value
read-returns-then-depth-eq0-2-clause-err t c never =
    let first : c.args.reader.now ≡ token_of c.in_ok-token.token ∷ c.next.new.self = grind arith in
    let none : c.args.depth ≡ 0 = omega arith in
    ap (converted of_json) (ap₂ value none (first ∙ ap (λ k. token_of k ∷ c.next.new.self) c.in-BeginObject.is))

pub read-returns-in_err-read_items-in-BeginArray-clause-err : goal.read-returns-in_err-read_items-in-BeginArray-clause-err
read-returns-in_err-read_items-in-BeginArray-clause-err t c refused =
    let first : c.args.reader.now ≡ token_of c.in_ok-token.token ∷ c.next.new.self = grind arith in
    let opened = ap (converted of_json) (ap (value c.args.depth) (first ∙ ap (λ k. token_of k ∷ c.next.new.self) c.in-BeginArray.is) ∙ value-begin_array c.args.depth c.next.new.self (omega arith)) ∙ converted-array (items (value (c.args.depth - 1)) (length c.next.new.self) c.next.new.self) in
    opened ∙ ap (parse_map array) (c.read_items.ensures.err (grind arith))

pub read-returns-in_err-read_members-in-BeginObject-clause-err : goal.read-returns-in_err-read_members-in-BeginObject-clause-err
read-returns-in_err-read_members-in-BeginObject-clause-err t c refused =
    let first : c.args.reader.now ≡ token_of c.in_ok-token.token ∷ c.next.new.self = grind arith in
    let opened = ap (converted of_json) (ap (value c.args.depth) (first ∙ ap (λ k. token_of k ∷ c.next.new.self) c.in-BeginObject.is) ∙ value-begin_object c.args.depth c.next.new.self (omega arith)) ∙ converted-object (members (value (c.args.depth - 1)) (length c.next.new.self) c.next.new.self) in
    opened ∙ ap (parse_map object) (c.read_members.ensures.err (grind arith))

pub read-returns-in-String-clause-ok : goal.read-returns-in-String-clause-ok
read-returns-in-String-clause-ok t c =
    let first : c.args.reader.now ≡ token_of c.in_ok-token.token ∷ c.next.new.self = grind arith in
    let is : c.args.reader.now ≡ Token.string c.in-String.text.now ∷ c.next.new.self = grind (arith, first) in
    let seen : view (String c.in-String.text) ≡ string c.in-String.text.now = search (rules, the_lemmas) in
    ap (converted of_json) (ap (value c.args.depth) is ∙ value_is c.args.depth _) ∙ ap (λ d. Some (d, c.next.new.self)) (sym seen)

pub read-returns-in-Bool-clause-ok : goal.read-returns-in-Bool-clause-ok
read-returns-in-Bool-clause-ok t c =
    let first : c.args.reader.now ≡ token_of c.in_ok-token.token ∷ c.next.new.self = grind arith in
    let is : c.args.reader.now ≡ Token.boolean c.in-Bool.b ∷ c.next.new.self = grind (arith, first) in
    let seen : view (Bool c.in-Bool.b) ≡ boolean c.in-Bool.b = search (rules, the_lemmas) in
    ap (converted of_json) (ap (value c.args.depth) is ∙ value_is c.args.depth _) ∙ ap (λ d. Some (d, c.next.new.self)) (sym seen)

pub read-returns-in-Null-clause-ok : goal.read-returns-in-Null-clause-ok
read-returns-in-Null-clause-ok t c =
    let first : c.args.reader.now ≡ token_of c.in_ok-token.token ∷ c.next.new.self = grind arith in
    let is : c.args.reader.now ≡ Token.null ∷ c.next.new.self = grind (arith, first) in
    let seen : view (Null) ≡ null = search (rules, the_lemmas) in
    ap (converted of_json) (ap (value c.args.depth) is ∙ value_is c.args.depth _) ∙ ap (λ d. Some (d, c.next.new.self)) (sym seen)

pub read-returns-in-Some-clause-ok : goal.read-returns-in-Some-clause-ok
read-returns-in-Some-clause-ok t c =
    let first : c.args.reader.now ≡ token_of c.in_ok-token.token ∷ c.next.new.self = grind arith in
    let is : c.args.reader.now ≡ Token.number c.in-Number.text.now ∷ c.next.new.self = grind (arith, first) in
    let seen : view (Number c.in-Some.number) ≡ number (number_view c.in-Some.number) = search (rules, the_lemmas) in
    ap (converted of_json) (ap (value c.args.depth) is ∙ value_is c.args.depth _) ∙ rw (← c.in-Some.ensures, seen)

pub read-returns-in-None-clause-err : goal.read-returns-in-None-clause-err
read-returns-in-None-clause-err t c refused =
    let first : c.args.reader.now ≡ token_of c.in_ok-token.token ∷ c.next.new.self = grind arith in
    let is : c.args.reader.now ≡ Token.number c.in-Number.text.now ∷ c.next.new.self = grind (arith, first) in
    ap (converted of_json) (ap (value c.args.depth) is ∙ value_is c.args.depth _) ∙ rw (← c.in-None.ensures)

pub read-returns-in-EndObject-clause-err : goal.read-returns-in-EndObject-clause-err
read-returns-in-EndObject-clause-err t c refused =
    let first : c.args.reader.now ≡ token_of c.in_ok-token.token ∷ c.next.new.self = grind arith in
    let none : value c.args.depth c.args.reader.now ≡ None = rw (value_is c.args.depth c.args.reader.now, first) (grind arith) in
    ap (converted of_json) none

pub read-returns-in_ok-read_items-in-BeginArray-clause-ok : goal.read-returns-in_ok-read_items-in-BeginArray-clause-ok
read-returns-in_ok-read_items-in-BeginArray-clause-ok t c =
    let first : c.args.reader.now ≡ token_of c.in_ok-token.token ∷ c.next.new.self = grind arith in
    let opened = ap (converted of_json) (ap (value c.args.depth) (first ∙ ap (λ k. token_of k ∷ c.next.new.self) c.in-BeginArray.is) ∙ value-begin_array c.args.depth c.next.new.self (omega arith)) ∙ converted-array (items (value (c.args.depth - 1)) (length c.next.new.self) c.next.new.self) in
    let found = c.in_ok-read_items-in-BeginArray in
    opened ∙ ap (parse_map array) found.ensures.ok ∙ ap (λ d. Some (d, c.read_items.new.reader)) (sym (view-Array found.field-0))

pub read-returns-in_ok-read_members-in-BeginObject-clause-ok : goal.read-returns-in_ok-read_members-in-BeginObject-clause-ok
read-returns-in_ok-read_members-in-BeginObject-clause-ok t c =
    let first : c.args.reader.now ≡ token_of c.in_ok-token.token ∷ c.next.new.self = grind arith in
    let opened = ap (converted of_json) (ap (value c.args.depth) (first ∙ ap (λ k. token_of k ∷ c.next.new.self) c.in-BeginObject.is) ∙ value-begin_object c.args.depth c.next.new.self (omega arith)) ∙ converted-object (members (value (c.args.depth - 1)) (length c.next.new.self) c.next.new.self) in
    let found = c.in_ok-read_members-in-BeginObject in
    opened ∙ ap (parse_map object) found.ensures.ok ∙ ap (λ d. Some (d, c.read_members.new.reader)) (sym (view-Object found.field-0))

pub read_items-items-init : goal.read_items-items-init
read_items-items-init t c =
    let all = converted of_items (items (value c.args.depth) (length c.args.reader.now) c.args.reader.now) in
    (length c.args.reader.now, omega arith, none_before all ∙ ap (λ vs. parse_map (items_before vs) all) (sym c.new-found.ensures.items), omega arith)

pub read_items-returns-in_err-item-clause-err : goal.read_items-returns-in_err-item-clause-err
read_items-returns-in_err-item-clause-err t c refused =
    let p = value c.args.depth in
    let l = c.items in
    let n = l.invariant.0 in
    let going : (after_end_array l.reader ≡ None) × (c.take_end_array.new.self ≡ l.reader) = grind arith in
    l.invariant.2 ∙ ap (parse_map (items_before l.found.items)) (item_refused p n l.reader going.0 (rw (← going.1) (c.read.ensures.err (grind arith))))

pub read_items-items-preserved : goal.read_items-items-preserved
read_items-items-preserved t c =
    let p = value c.args.depth in
    let l = c.items in
    let n = l.invariant.0 in
    let going : (after_end_array l.reader ≡ None) × (c.take_end_array.new.self ≡ l.reader) = grind arith in
    let done = c.in_ok-item.ensures in
    let v = c.in_ok-item.item in
    let r = c.read.new.reader in
    let less : length r < length l.reader = rw (← going.1) done.shorter in
    let turn = item_read p n l.reader r (view v) (omega (arith, l.invariant.1)) going.0 (rw (← going.1) done.ok) in (
      n - 1,
      omega (arith, l.invariant.1),
      l.invariant.2 ∙ ap (parse_map (items_before l.found.items)) turn ∙ one_more_item l.found.items v _
          ∙ ap (λ vs. parse_map (items_before vs) (converted of_items (items p (n - 1) r))) (sym c.in_ok-push.ensures.items),
      omega (arith, l.invariant.3),
    )

pub read_items-returns-clause-ok : goal.read_items-returns-clause-ok
read_items-returns-clause-ok t c =
    let p = value c.args.depth in
    let l = c.items in
    let n = l.invariant.0 in
    let r = c.take_end_array.new.self in
    l.invariant.2 ∙ ap (parse_map (items_before l.found.items)) (items_over p n l.reader r l.invariant.1 (grind arith)) ∙ ap (λ ds. Some (ds, r)) (items_before-no_items l.found.items)

pub read_members-members-init : goal.read_members-members-init
read_members-members-init t c =
    let all = members (value c.args.depth) (length c.args.reader.now) c.args.reader.now in
    (length c.args.reader.now, omega arith, ap (λ es. converted (λ ms. of_members ms (members_view es)) all) (sym c.new-found.ensures.items), omega arith)

pub read_members-returns-in_err-name-clause-err : goal.read_members-returns-in_err-name-clause-err
read_members-returns-in_err-name-clause-err t c refused =
    let p = value c.args.depth in
    let l = c.members in
    let n = l.invariant.0 in
    let old = members_view l.found.items in
    l.invariant.2 ∙ key_refused p old n l.reader c.in_err-name.ensures.value

pub read_members-returns-in_err-member-clause-err : goal.read_members-returns-in_err-member-clause-err
read_members-returns-in_err-member-clause-err t c refused =
    let p = value c.args.depth in
    let l = c.members in
    let n = l.invariant.0 in
    let old = members_view l.found.items in
    let k = c.in-Some.name.now in
    let s = c.next_key.new.self in
    let named : read_key l.reader ≡ Some (Some k, s) = grind arith in
    l.invariant.2 ∙ member_refused p old n k l.reader s named (c.read.ensures.err (grind arith))

pub read_members-members-preserved : goal.read_members-members-preserved
read_members-members-preserved t c =
    let p = value c.args.depth in
    let l = c.members in
    let n = l.invariant.0 in
    let old = members_view l.found.items in
    let k = c.in-Some.name.now in
    let s = c.next_key.new.self in
    let named : read_key l.reader ≡ Some (Some k, s) = grind arith in
    let done = c.in_ok-member.ensures in
    let v = c.in_ok-member.member in
    let r = c.read.new.reader in
    let less = read_key-shorter l.reader (Some k) s named in
    let lesser = done.shorter in
    let pushed : members_view c.push.new.self.items ≡ put k (view v) old =
    ap members_view c.in_ok-push.ensures.items ∙ members_view-push l.found.items c.in-Some.name v in (
      n - 1,
      omega (arith, l.invariant.1),
      l.invariant.2 ∙ member_read p old n k l.reader s r (view v) (omega (arith, l.invariant.1)) named done.ok
          ∙ ap (λ found. converted (λ ms. of_members ms found) (members p (n - 1) r)) (sym pushed),
      omega (arith, l.invariant.3),
    )

pub read_members-returns-clause-ok : goal.read_members-returns-clause-ok
read_members-returns-clause-ok t c =
    let p = value c.args.depth in
    let l = c.members in
    let n = l.invariant.0 in
    let old = members_view l.found.items in
    l.invariant.2 ∙ members_over p old n l.reader c.next_key.new.self l.invariant.1 (grind arith)
