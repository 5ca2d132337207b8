pub mod StatedLaws
