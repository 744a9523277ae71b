use Rattle.std.proofs.{Common.{refl, sym, ap, ◌∙◌, append-nil}, lemmas.List.{map-append}}
use Rattle.html_dom_document.specs.Records.{place_view, places_view, locations_view}
use Rattle.html_dom_document.proofs.recorder.Recorder.add_tag.Goals as goal

pub returns : goal.returns
returns c =
    let old = c.args.self.now in
    record {
      found = ap places_view c.in_ok-push.ensures.items
          ∙ (map-append place_view old.places.items _
          ∙ rw (c.in-Start.is, c.in_ok-path.ensures) refl);
      linked = sym (append-nil (locations_view old.links.items));
    }
