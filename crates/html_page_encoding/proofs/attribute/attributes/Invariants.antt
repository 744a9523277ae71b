use Rattle.std.proofs.Common.{◌≡◌, ◌-◌}
use Rattle.html_page_encoding.specs.{Attributes.{attributes, attributes_within}, Views.{meta_view}}
use Rattle.html_page_encoding.proofs.attribute.attributes.Given as goal

abbrev pub invariant-loop : goal.invariant-loop
invariant-loop l =
    attributes_within (l.end - l.counter)
    (meta_view (record { pragma = l.meta.0; content = l.meta.1.0; charset = l.meta.1.1.0 })) l.rest
    ≡ attributes l.fn.bytes
