pub mod Reading
pub mod Grammar
pub mod Lines
pub mod Numbers
pub mod LineFormats
