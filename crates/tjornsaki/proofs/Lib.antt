pub mod HeadNumbers
