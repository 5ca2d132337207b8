-- What a picture sees that has read the next argument, an int.
use Rattle.std.proofs.Common.{◌≡◌, ℕ, List, [], ◌∷◌, ◌++◌, length, refl, sym, subst}
use Rattle.kb_class.specs.Naming.{Has}
use Rattle.kb_class.specs.declared.ids.MethodId.{MethodId}
use Rattle.kb_classes.specs.World.{World}
use Rattle.kb_picture.proofs.GrownPictures.{has_more, longer_front, slots_grown}
use Rattle.kb_picture.specs.declared.picture.Origin.{Origin}
use Rattle.kb_picture.specs.declared.picture.Origin.TheVariants.{Arg}
use Rattle.kb_picture.specs.declared.picture.Picture.{Picture}
use Rattle.kb_picture.specs.declared.picture.Seen.TheVariants as seens
use Rattle.kb_picture.specs.Growth.{after_int_read}
use Rattle.kb_picture.specs.WellFormed.{slots_seen, variables_seen}
use Rattle.kb_picture.specs.WellTyped.{IsReceiverSeen}

-- the argument n is read
module _ (world : World) (id : MethodId) (old : Picture) (n : ℕ) where
  abbrev new : Picture
  new = after_int_read old (Arg n)

  pub slots_are : slots_seen new ≡ slots_seen old ++ Arg n ∷ []
  unfolding after_int_read
  slots_are = slots_grown old new (Arg n) (seens.Int (length (variables_seen old))) refl

  pub receiver_still : IsReceiverSeen world id old → IsReceiverSeen world id new
  receiver_still seen = λ method is own.
      subst (λ (slots : List Origin). Has slots (Arg 0)) (sym slots_are) (has_more (slots_seen old) (slots_seen old ++ Arg n ∷ []) (Arg 0) (longer_front (slots_seen old) (Arg n)) (seen method is own))
