use Rattle.std.proofs.Common.{◌≡◌, IfOk, subst}
use Rattle.thrift_core.specs.Tree.{Tree}
use Rattle.thrift_core.specs.Writing.{written}
use Rattle.thrift_core.specs.declared.form.Form.{the_lemmas}
use Rattle.thrift_core.proofs.Callers.{conditions}
use Rattle.page_writing.specs.Writing.{header_form, header_tree}
use Rattle.page_writing.proofs.WrittenHeader.{header_has_form}
use Rattle.page_writing.proofs.header.header_bytes.Goals as goal

pub write_struct-requires-clause-types_named : goal.write_struct-requires-clause-types_named
write_struct-requires-clause-types_named c =
    let n = c.args.num_values in
    let size = c.args.size in
    let h = conditions header_form (header_tree n size) (header_has_form n size c.requires.few c.requires.short) in
    rw c.in_ok-tree.ensures (simp the_lemmas h.types)

pub returns : goal.returns
returns c =
    let h = simp the_lemmas at c.write_struct.ensures.exact in
    subst (λ (t : Tree). IfOk c.write_struct.result (λ bytes. bytes.items ≡ written header_form t))
    c.in_ok-tree.ensures h
