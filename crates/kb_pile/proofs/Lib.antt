pub mod PileLaws
