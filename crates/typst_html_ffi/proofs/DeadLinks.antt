-- Dead links as JSON have a text, and a reply without a text reports none.
use Rattle.std.proofs.Common.{◌≡◌, List, [], ◌∷◌, false, refl}
use Rattle.html_anchors.specs.Links.{DeadLinkView}
use Rattle.typst_html_json.specs.declared.fault.{Fault.{Fault}, Fault.TheVariants.{OutOfMemory, BadInput, Refused}}
use Rattle.typst_html_json.specs.declared.fault.InputPlace.TheVariants.{Unknown, Text, Form}
use Rattle.serde_json.specs.Written.{has_float}
use Rattle.typst_html_ffi.specs.{CallReplies.{fault_reply, with_dead_links}, DeadLinks.{dead_links_data}}

pub no_float : (links : List DeadLinkView) → has_float (dead_links_data links) ≡ false
no_float [] = refl
no_float (link ∷ links) = no_float links

pub fault_stays : (links : List DeadLinkView) (f : Fault)
    → with_dead_links links (fault_reply f) ≡ fault_reply f
fault_stays [] f = refl
fault_stays (link ∷ links) OutOfMemory = refl
fault_stays (link ∷ links) (BadInput Unknown) = refl
fault_stays (link ∷ links) (BadInput (Text line column)) = refl
fault_stays (link ∷ links) (BadInput (Form n)) = refl
fault_stays (link ∷ links) (Refused number span) = refl
