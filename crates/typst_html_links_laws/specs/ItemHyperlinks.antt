-- Items without hyperlinks: none is an `a` or `area` with an `href` (HTML Standard 4.6.1).
use Rattle.std.specs.Prelude.{◌≡◌, false}
use Rattle.html_page_findings.specs.Hyperlinks.{is_hyperlink}
use Rattle.html_flow_convert.specs.Items.{ItemView, element_item, box_item, block_item, ItemsView, no_items, item, BodyView, absent, present}

-- an item without hyperlinks, at any depth
abbrev mutual
  pub ItemHasNoHyperlink : ItemView → Type 0
  ItemHasNoHyperlink (element_item h body) =
      (is_hyperlink h.name h.attrs ≡ false) × BodyHasNoHyperlink body
  ItemHasNoHyperlink (box_item body span) = BodyHasNoHyperlink body
  ItemHasNoHyperlink (block_item body span) = BodyHasNoHyperlink body
  ItemHasNoHyperlink _ = Unit {0}

  pub ItemsHaveNoHyperlink : ItemsView → Type 0
  ItemsHaveNoHyperlink no_items = Unit {0}
  ItemsHaveNoHyperlink (item i role items) = ItemHasNoHyperlink i × ItemsHaveNoHyperlink items

  pub BodyHasNoHyperlink : BodyView → Type 0
  BodyHasNoHyperlink absent = Unit {0}
  BodyHasNoHyperlink (present items) = ItemsHaveNoHyperlink items
