-- The pure value of a policy.
use Rattle.std.specs.Prelude.{option_map}
use Rattle.html_names_core.specs.Texts.{text_view, texts_view}
use Rattle.html_clean_policy.specs.{Policies.{PolicyView}, declared.policy.Policy.{Policy}}

abbrev pub policy_view : Policy → PolicyView
policy_view p = record {
  elements = p.elements.items;
  attrs = p.attrs.items;
  own_attrs = p.own_attrs.items;
  data_attrs = p.data_attrs;
  schemes = texts_view p.schemes.items;
  relative = p.relative;
  properties = texts_view p.properties.items;
  prefix = text_view p.prefix;
  rel = option_map text_view p.rel;
}
